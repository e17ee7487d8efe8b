-- What the counting program answers (document 02, Ask 8): it reads what the log program reads, and comes to two numbers.
use Rattle.std.specs.Prelude.{ℕ, Option, Some, None, ◌≡◌, List, [], ◌∷◌, ◌++◌, cond, drop}
use Rattle.machine.specs.State.{reset_state}
use Rattle.machine.specs.Window.{zero_words}
use Rattle.machine.specs.Run.{run}
use Rattle.controller.specs.Controller.{state_of}
use Rattle.hex_digits.specs.Hex.{bytes, digits}
use Rattle.lines.specs.Lines.{line_at, past_line, lines}
use Rattle.frame_log.specs.declared.Cycles.{Cycles}
use Rattle.frame_log.specs.Promises.{joined, steps_in}
use Rattle.frame_log.specs.Results.{begun_of}
use Rattle.frame_log.specs.Counts.{CountOutcome, count_after, count_of, end_count_of}
use Rattle.input.specs.declared.Reading.{Reading}
use Rattle.input.specs.declared.Reading.TheVariants.{FirstLine, Frames, Over}
use Rattle.input.specs.declared.SetLine.TheVariants.{Nothing}
use Rattle.input.specs.Input.{is_set_line, has_set, passing}
use Rattle.tally.specs.declared.Tally.{Tally}

abbrev pub total_of : CountOutcome → Option Cycles
total_of c = Some (record { writes = c.writes; reads = c.reads })

-- the line that is printed: 8 digits of each number, one space between
unfoldable pub total_line : ℕ → ℕ → List ℕ
total_line writes reads = digits 8 writes ++ bytes " " ++ digits 8 reads ++ bytes "\n"

-- ---- a whole input

-- the done cycles of a text, from reset over `zero_words`, as the log program has it
unfoldable pub cycles_in : List ℕ → Option Cycles
cycles_in text = total_of (count_after (run reset_state 0 zero_words (steps_in (lines text))) [] 0 0)

-- the first line chooses a set, as in `input_log`, and all after it is counted, whichever set it is
unfoldable pub total_in : List ℕ → Option Cycles
total_in input = cond (is_set_line (line_at input 0)) (cycles_in (drop (past_line input 0) input)) None

-- ---- in pieces

-- how far the reading has come, and what is counted
pub record TallyOutcome : Type 0 where
  pub reading : Reading
  pub count : CountOutcome

abbrev pub tally_of : Tally → List ℕ → TallyOutcome
tally_of t memory = record { reading = t.reading; count = record { state = state_of t.stream.controller; memory = memory; begun = begun_of t.stream; writes = t.cycles.writes; reads = t.cycles.reads } }

-- past the set line frames are counted
unfoldable pub count_past : Reading → CountOutcome → ℕ → List ℕ → CountOutcome
count_past (FirstLine line) c start rest = c
count_past (Frames set) c start rest = count_of c.state start c.memory c.begun rest c.writes c.reads
count_past Over c start rest = c

unfoldable pub fed_tally : TallyOutcome → ℕ → List ℕ → TallyOutcome
fed_tally t start piece = let p = passing t.reading piece in record { reading = p.reading; count = count_past p.reading t.count start p.rest }

-- the end of the input: what it comes to, and the memory
pub record Ended : Type 0 where
  pub total : Option Cycles
  pub memory : List ℕ

unfoldable pub ended_by : Reading → CountOutcome → ℕ → Ended
ended_by (FirstLine line) c start = record { total = cond (has_set line) (total_of c) None; memory = c.memory }
ended_by (Frames set) c start =
    let e = end_count_of c.state start c.memory c.begun c.writes c.reads in record { total = total_of e; memory = e.memory }
ended_by Over c start = record { total = None; memory = c.memory }

abbrev pub ended_tally : TallyOutcome → ℕ → Ended
ended_tally t start = ended_by t.reading t.count start

-- what pieces come to: each is fed, then the input ends
unfoldable pub pieces_total : TallyOutcome → ℕ → List (List ℕ) → Option Cycles
pieces_total t start [] = (ended_tally t start).total
pieces_total t start (p ∷ more) = pieces_total (fed_tally t start p) start more

-- before an input, from reset
abbrev pub not_begun : TallyOutcome
not_begun = record { reading = FirstLine Nothing; count = record { state = reset_state; memory = zero_words; begun = []; writes = 0; reads = 0 } }

-- `tally_joined`: wherever the pieces of an input end, in the set line or past it, they come to what the whole input comes to
abbrev pub TallyJoined : Type 0
TallyJoined = (pieces : List (List ℕ)) → pieces_total not_begun 0 pieces ≡ total_in (joined pieces)
