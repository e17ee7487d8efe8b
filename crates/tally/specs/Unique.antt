-- Two results that meet one contract are the same.
use Rattle.std.specs.Prelude.{ℕ, Option, ◌≡◌, List}
use Rattle.tally.specs.declared.Tally.{Tally}
use Rattle.frame_log.specs.declared.Cycles.{Cycles}
use Rattle.tally.specs.Tally.{tally_of, fed_tally, ended_tally}

-- `tally_feed_unique`: how far the reading has come, state (FIFOs by the words they hold), memory, the bytes carried on and the two numbers
abbrev pub TallyFeedUnique : Type 0
TallyFeedUnique =
    (t : Tally) (start : ℕ) (memory piece : List ℕ) (r q : Tally) (memory' memory'' : List ℕ)
    → tally_of r memory' ≡ fed_tally (tally_of t memory) start piece → tally_of q memory'' ≡ fed_tally (tally_of t memory) start piece
    → tally_of r memory' ≡ tally_of q memory''

-- `tally_finish_unique`: what the input comes to, to the letter, and the memory
abbrev pub TallyFinishUnique : Type 0
TallyFinishUnique =
    (t : Tally) (start : ℕ) (memory : List ℕ) (r q : Option Cycles) (memory' memory'' : List ℕ)
    → record { total = r; memory = memory' } ≡ ended_tally (tally_of t memory) start → record { total = q; memory = memory'' } ≡ ended_tally (tally_of t memory) start
    → (r ≡ q) × (memory' ≡ memory'')
