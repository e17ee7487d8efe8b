-- The log of a text, and of a text that comes in pieces.
use Rattle.std.specs.Prelude.{ℕ, Option, cond, List, [], ◌∷◌, ◌++◌, take, ◌==◌}
use Rattle.machine.specs.State.{State}
use Rattle.machine.specs.Step.{Outcome}
use Rattle.machine.specs.declared.Answer.{Answer}
use Rattle.lines.specs.Lines.{lf, lines}
use Rattle.machine.specs.declared.Step.{Step}
use Rattle.frame.specs.Frame.{frame_of, framed_outcome}
use Rattle.logline.specs.LogLine.{log_line}

-- what a line brings about: its step, or code 14
unfoldable pub line_outcome : State → ℕ → List ℕ → List ℕ → Outcome
line_outcome st start memory line = framed_outcome (frame_of line) st start memory

-- each answer has one log line, with the label of a set
unfoldable pub log_of : ℕ → List Answer → List ℕ
log_of set [] = []
log_of set (a ∷ more) = log_line set a ++ log_of set more

-- ---- a text

-- what lines leave, and their answers, one for each line
pub record TextOutcome : Type 0 where
  pub state : State
  pub memory : List ℕ
  pub answers : List Answer

-- a line is answered from what the lines before it left
unfoldable pub lines_outcome : State → ℕ → List ℕ → List (List ℕ) → TextOutcome
lines_outcome st start memory [] = record { state = st; memory = memory; answers = [] }
lines_outcome st start memory (line ∷ more) =
    let o = line_outcome st start memory line in
    let t = lines_outcome o.state start o.memory more in
    record { state = t.state; memory = t.memory; answers = o.answer ∷ t.answers }

-- answers, then what t tells
abbrev pub after : List Answer → TextOutcome → TextOutcome
after answers t = record { state = t.state; memory = t.memory; answers = answers ++ t.answers }

-- a text is told line by line
abbrev pub text_outcome : State → ℕ → List ℕ → List ℕ → TextOutcome
text_outcome st start memory text = lines_outcome st start memory (lines text)

-- ---- a text in pieces

-- of a line that has not ended these many bytes are carried: they tell whether it is a frame, since a line of 14 is none
abbrev pub carried : ℕ
carried = 14

-- what a piece leaves: state, memory, the carried bytes of the line that has not ended, and the answers to the lines that have
pub record PieceOutcome : Type 0 where
  pub state : State
  pub memory : List ℕ
  pub begun : List ℕ
  pub answers : List Answer

abbrev pub answering : Answer → PieceOutcome → PieceOutcome
answering a f = record { state = f.state; memory = f.memory; begun = f.begun; answers = a ∷ f.answers }

-- byte by byte, after the bytes `begun`: an LF ends the line
unfoldable pub piece_outcome : State → ℕ → List ℕ → List ℕ → List ℕ → PieceOutcome
piece_outcome st start memory begun [] = record { state = st; memory = memory; begun = begun; answers = [] }
piece_outcome st start memory begun (x ∷ xs) =
    let o = line_outcome st start memory begun in
    cond (x == lf) (answering o.answer (piece_outcome o.state start o.memory [] xs)) (piece_outcome st start memory (take carried (begun ++ (x ∷ []))) xs)

-- what the lines that end in a piece say, one by one
unfoldable pub frames_in : List ℕ → List ℕ → List (Option Step)
frames_in begun [] = []
frames_in begun (x ∷ xs) = cond (x == lf) (frame_of begun ∷ frames_in [] xs) (frames_in (take carried (begun ++ (x ∷ []))) xs)
