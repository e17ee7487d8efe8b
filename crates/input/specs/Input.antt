-- What the log program reads (document 02, Ask 1): a first line with the number of a label set, then frames.
use Rattle.std.specs.Prelude.{ℕ, Option, Some, None, ◌+◌, ◌*◌, List, [], ◌∷◌, Bool, true, false, cond, ◌&&◌, length, drop, ltb, eqb}
use Rattle.machine.specs.State.{State}
use Rattle.hex_digits.specs.Hex.{digit_number, all_digits, number}
use Rattle.lines.specs.Lines.{lf, line_at, past_line}
use Rattle.logline.specs.Labels.{is_set}
use Rattle.logline.specs.LogLine.{refusal}
use Rattle.frame_log.specs.Log.{log_of, text_outcome, piece_outcome}
use Rattle.frame_log.specs.Promises.{program_log}
use Rattle.input.specs.declared.Reading.{Reading}
use Rattle.input.specs.declared.Reading.TheVariants.{FirstLine, Frames, Over}
use Rattle.input.specs.declared.SetLine.{SetLine}
use Rattle.input.specs.declared.SetLine.TheVariants.{Nothing, Digit, Number}

-- ---- a whole input

-- two digits that are the number of a set
unfoldable pub is_set_line : List ℕ → Bool
is_set_line line = eqb (length line) 2 && (all_digits line && is_set (number line))

-- The first line, ended by LF or by the end of the input, chooses the set, and all after it is run under that set. If there is none, or it
-- names no set, the set is unknown, and nothing is run.
unfoldable pub input_log : List ℕ → List ℕ
input_log input = let line = line_at input 0 in cond (is_set_line line) (program_log (number line) (drop (past_line input 0) input)) refusal

-- the set that the first line of an input chooses
unfoldable pub chosen_in : List ℕ → Option ℕ
chosen_in input = let line = line_at input 0 in cond (is_set_line line) (Some (number line)) None

-- ---- the set line, byte by byte

-- a byte more: as soon as no set can be meant, the reading is over
unfoldable pub heard : SetLine → ℕ → Reading
heard Nothing b = cond (is_set (16 * digit_number b)) (FirstLine (Digit (digit_number b))) Over
heard (Digit high) b = let set = 16 * high + digit_number b in cond (ltb (digit_number b) 16 && is_set set) (FirstLine (Number set)) Over
heard (Number set) b = cond (eqb b lf) (Frames set) Over

-- the end of the input ends a set line of two digits
unfoldable pub has_set : SetLine → Bool
has_set Nothing = false
has_set (Digit high) = false
has_set (Number set) = true

-- how far a reading comes with a piece, and the bytes of the piece past the set line
pub record Passing : Type 0 where
  pub reading : Reading
  pub rest : List ℕ

unfoldable pub passing : Reading → List ℕ → Passing
passing r [] = record { reading = r; rest = [] }
passing (FirstLine line) (x ∷ xs) = passing (heard line x) xs
passing (Frames set) (x ∷ xs) = record { reading = Frames set; rest = x ∷ xs }
passing Over (x ∷ xs) = record { reading = Over; rest = x ∷ xs }

-- ---- an input in pieces

-- what a piece, or the end of the input, leaves: how far the reading has come, state, memory, the line that has not ended, and the log
pub record InputOutcome : Type 0 where
  pub reading : Reading
  pub state : State
  pub memory : List ℕ
  pub begun : List ℕ
  pub log : List ℕ

-- it is refused once: by the piece that ends the reading
unfoldable pub refusal_after : Reading → List ℕ
refusal_after (FirstLine line) = refusal
refusal_after (Frames set) = []
refusal_after Over = []

-- past the set line: frames are fed under the set; `before` is how far the reading had come before the piece
unfoldable pub fed_past : Reading → Reading → State → ℕ → List ℕ → List ℕ → List ℕ → InputOutcome
fed_past before (FirstLine line) st start memory begun rest = record { reading = FirstLine line; state = st; memory = memory; begun = begun; log = [] }
fed_past before (Frames set) st start memory begun rest =
    let f = piece_outcome st start memory begun rest in
    record { reading = Frames set; state = f.state; memory = f.memory; begun = f.begun; log = log_of set f.answers }
fed_past before Over st start memory begun rest = record { reading = Over; state = st; memory = memory; begun = begun; log = refusal_after before }

unfoldable pub fed_input : Reading → State → ℕ → List ℕ → List ℕ → List ℕ → InputOutcome
fed_input r st start memory begun piece = let p = passing r piece in fed_past r p.reading st start memory begun p.rest

-- the end of the input: a set line without a set is refused, frames end as a text does
unfoldable pub ended_first : Bool → SetLine → State → List ℕ → List ℕ → InputOutcome
ended_first known line st memory begun = record { reading = cond known (FirstLine line) Over; state = st; memory = memory; begun = begun; log = cond known [] refusal }

unfoldable pub ended_input : Reading → State → ℕ → List ℕ → List ℕ → InputOutcome
ended_input (FirstLine line) st start memory begun = ended_first (has_set line) line st memory begun
ended_input (Frames set) st start memory begun =
    let t = text_outcome st start memory begun in
    record { reading = Frames set; state = t.state; memory = t.memory; begun = begun; log = log_of set t.answers }
ended_input Over st start memory begun = record { reading = Over; state = st; memory = memory; begun = begun; log = [] }
