-- What is promised of the log of a text.
use Rattle.std.specs.Prelude.{◌≡◌, ℕ, Option, Some, None, List, [], ◌∷◌, ◌++◌, map, length}
use Rattle.machine.specs.State.{State, reset_state}
use Rattle.machine.specs.Window.{zero_words}
use Rattle.machine.specs.Event.{answers}
use Rattle.machine.specs.Run.{RunOutcome, run}
use Rattle.machine.specs.declared.Step.{Step}
use Rattle.machine.specs.declared.Answer.{Answer}
use Rattle.hex_digits.specs.Hex.{bytes}
use Rattle.lines.specs.Lines.{lf, lines}
use Rattle.frame.specs.Frame.{frame_of}
use Rattle.logline.specs.Labels.{english_set}
use Rattle.logline.specs.LogLine.{log_body}
use Rattle.frame_log.specs.Log.{log_of, TextOutcome, lines_outcome, after, text_outcome, piece_outcome}

-- ---- one log line for each line

-- `one_answer_each`: a text has one answer for each line
abbrev pub OneAnswerEach : Type 0
OneAnswerEach = (st : State) (start : ℕ) (memory text : List ℕ) → length (text_outcome st start memory text).answers ≡ length (lines text)

-- `one_line_each`: the log, read as a text, has one line for each answer, and that line is the answer's
abbrev pub OneLineEach : Type 0
OneLineEach = (set : ℕ) (answers : List Answer) → lines (log_of set answers) ≡ map (log_body set) answers

-- ---- texts joined, and a text in pieces

-- `log_append`: the log of answers joined is their logs joined
abbrev pub LogAppend : Type 0
LogAppend = (set : ℕ) (xs ys : List Answer) → log_of set (xs ++ ys) ≡ log_of set xs ++ log_of set ys

-- `texts_joined`: the log of two texts joined after an LF is that of the first, then that of the second from the state the first leaves
pub record LogsJoined (set : ℕ) (whole first second : TextOutcome) : Type 0 where
  pub state : whole.state ≡ second.state
  pub memory : whole.memory ≡ second.memory
  pub log : log_of set whole.answers ≡ log_of set first.answers ++ log_of set second.answers

abbrev pub TextsJoined : Type 0
TextsJoined =
    (set : ℕ) (st : State) (start : ℕ) (memory a b : List ℕ) (first : TextOutcome) → first ≡ text_outcome st start memory (a ++ (lf ∷ []))
    → LogsJoined set (text_outcome st start memory (a ++ (lf ∷ []) ++ b)) first (text_outcome first.state start first.memory b)

-- pieces one after the other
abbrev pub joined : List (List ℕ) → List ℕ
joined [] = []
joined (p ∷ more) = p ++ joined more

-- what pieces tell, after the bytes `begun`: each is fed, and at the end what has begun is told as a text
unfoldable pub pieces_outcome : State → ℕ → List ℕ → List ℕ → List (List ℕ) → TextOutcome
pieces_outcome st start memory begun [] = text_outcome st start memory begun
pieces_outcome st start memory begun (p ∷ more) =
    let f = piece_outcome st start memory begun p in
    after f.answers (pieces_outcome f.state start f.memory f.begun more)

-- `pieces_joined`: wherever the pieces end, they tell what the whole text tells, so by `log_append` their logs joined are its log
abbrev pub PiecesJoined : Type 0
PiecesJoined = (st : State) (start : ℕ) (memory : List ℕ) (pieces : List (List ℕ)) → pieces_outcome st start memory [] pieces ≡ text_outcome st start memory (joined pieces)

-- ---- a text is a run of its steps

-- the steps of the lines that are frames
abbrev pub framed : Option Step → List Step
framed (Some s) = s ∷ []
framed None = []

unfoldable pub steps_in : List (List ℕ) → List Step
steps_in [] = []
steps_in (line ∷ more) = framed (frame_of line) ++ steps_in more

-- the answers to those lines
abbrev pub to_frame : Option Step → Answer → List Answer
to_frame (Some s) a = a ∷ []
to_frame None a = []

unfoldable pub to_frames : List (List ℕ) → List Answer → List Answer
to_frames [] answers = []
to_frames (line ∷ more) [] = []
to_frames (line ∷ more) (a ∷ answers) = to_frame (frame_of line) a ++ to_frames more answers

-- `text_runs`: what a text leaves, and its steps' answers, are those of the machine's run over its steps: so every theorem of runs is one of texts
pub record TextIsRun (ls : List (List ℕ)) (t : TextOutcome) (r : RunOutcome) : Type 0 where
  pub state : t.state ≡ r.state
  pub memory : t.memory ≡ r.memory
  pub answers : to_frames ls t.answers ≡ answers r.events

abbrev pub TextRuns : Type 0
TextRuns = (st : State) (start : ℕ) (memory : List ℕ) (ls : List (List ℕ)) → TextIsRun ls (lines_outcome st start memory ls) (run st start memory (steps_in ls))

-- ---- the worked frames

-- the log of a text under a set as the log program has it: it begins at reset, over `zero_words` from address 0 on
unfoldable pub program_log : ℕ → List ℕ → List ℕ
program_log set text = log_of set (text_outcome reset_state 0 zero_words text).answers

abbrev pub worked_frames : List ℕ
worked_frames = bytes "03101000000A5\n0034F00000000\n0010100000000\n0020F00000000\nxyz"

abbrev pub worked_log : List ℕ
worked_log = bytes "000000000000000000000 done\n000000000000010000000 done\n0000000000000000A5000 done\n080000000000000000000 FIFO full or empty\n0E0000000000000000000 not a frame line\n"

-- `worked_hold`
abbrev pub WorkedHold : Type 0
WorkedHold = program_log english_set worked_frames ≡ worked_log

-- `german_hold`: the same frames under the German set
abbrev pub german_log : List ℕ
german_log = bytes "000000000000000000000 erledigt\n000000000000010000000 erledigt\n0000000000000000A5000 erledigt\n080000000000000000000 FIFO voll/leer\n0E0000000000000000000 keine Rahmenzeile\n"

abbrev pub GermanHold : Type 0
GermanHold = program_log 1 worked_frames ≡ german_log

-- A second text: an empty line, CR before LF, 12 digits, 14, a lower-case digit; then frames that end in a write cycle, so that every number of
-- a log line is seen; an empty line with the interrupt line set; at the end a frame without LF.
abbrev pub second_frames : List ℕ
second_frames =
    bytes "\n003CF00000000\r\n003CF0000000\n003CF000000000\n003cF00000000\n"
    ++ bytes "0138F00004000\n0320F11223344\n0124F00000100\n0128F00000002\n013CF00000400\n0400000000000\n\n003CF00000000"

abbrev pub second_log : List ℕ
second_log =
    bytes "0E0000000000000000000 not a frame line\n0E0000000000000000000 not a frame line\n0E0000000000000000000 not a frame line\n"
    ++ bytes "0E0000000000000000000 not a frame line\n0E0000000000000000000 not a frame line\n"
    ++ bytes "000000000000000000000 done\n000000000000000000000 done\n000000000000000000000 done\n000000000000000000000 done\n000000000000000000000 done\n"
    ++ bytes "000000010011223344310 done\n0E0000000000000000010 not a frame line\n0000000000000004E6010 done\n"

-- `second_hold`; and LFs alone are as many empty lines, with none after the last
abbrev pub SecondHold : Type 0
SecondHold = (program_log english_set second_frames ≡ second_log) × (program_log english_set (bytes "\n\n") ≡ bytes "0E0000000000000000000 not a frame line\n0E0000000000000000000 not a frame line\n")

-- How tight the contracts are: a worthless log, right about the first line, which gives back every later one as it came
abbrev pub echo : List (List ℕ) → List ℕ
echo [] = []
echo (line ∷ more) = line ++ (lf ∷ []) ++ echo more

abbrev pub echoing : List (List ℕ) → List ℕ
echoing [] = []
echoing (line ∷ more) = log_of english_set (lines_outcome reset_state 0 zero_words (line ∷ [])).answers ++ echo more

-- `echoing_fails`: it fails the worked frames
abbrev pub EchoingFails : Type 0
EchoingFails = echoing (lines worked_frames) ≡ worked_log → ⊥
