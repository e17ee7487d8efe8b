-- A piece, by where the reading comes with it.
use Prim.Native.Nat.{ℕ}
use mathlib.Core.Path.{◌≡◌, refl}
use mathlib.Core.List.{List}
use Rattle.frame_log.specs.Counts.{CountOutcome}
use Rattle.std.proofs.Common.{Bool, true, false, cond, Some, None}
use Rattle.std.specs.Bool.{then_some}
use Rattle.frame_log.specs.declared.Cycles.{Cycles}
use Rattle.input.specs.declared.Reading.{Reading}
use Rattle.input.specs.declared.Reading.TheVariants.{FirstLine, Frames, Over}
use Rattle.input.specs.Input.{Passing, passing}
use Rattle.tally.specs.Tally.{TallyOutcome, count_past, fed_tally}

pub fed_is : (t : TallyOutcome) (start : ℕ) (piece : List ℕ) (p : Passing) → passing t.reading piece ≡ p
    → record { reading = p.reading; count = count_past p.reading t.count start p.rest } ≡ fed_tally t start piece
unfolding fed_tally
fed_is t start piece p e = rw e

-- short of the frames nothing is counted
pub past_stays : (r : Reading) (c : CountOutcome) (start : ℕ) (rest : List ℕ) → ((set : ℕ) → r ≡ Frames set → ⊥) → c ≡ count_past r c start rest
unfolding count_past
past_stays (FirstLine line) c start rest n = refl
past_stays (Frames set) c start rest n = absurd (n set refl)
past_stays Over c start rest n = refl

pub total_if : (known : Bool) (cycles : Cycles) → then_some known cycles ≡ cond known (Some cycles) None
total_if true cycles = refl
total_if false cycles = refl
