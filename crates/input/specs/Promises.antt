-- What is promised of inputs.
use Rattle.std.specs.Prelude.{ℕ, ◌≡◌, List, [], ◌∷◌, ◌++◌, true, false}
use Rattle.machine.specs.State.{State, reset_state}
use Rattle.machine.specs.Window.{zero_words}
use Rattle.hex_digits.specs.Hex.{bytes, number, digits}
use Rattle.lines.specs.Lines.{lf, line_at}
use Rattle.logline.specs.Labels.{is_set}
use Rattle.frame_log.specs.Promises.{joined, program_log}
use Rattle.frame_log.specs.Cut.{cut}
use Rattle.input.specs.declared.Reading.{Reading}
use Rattle.input.specs.declared.Reading.TheVariants.{FirstLine, Over}
use Rattle.input.specs.declared.SetLine.TheVariants.{Nothing}
use Rattle.input.specs.Input.{is_set_line, input_log, passing, fed_input, ended_input}

-- `set_line_read`, `set_line_only`: a first line chooses a set if and only if it is that set's number in two digits
abbrev pub SetLineRead : Type 0
SetLineRead = (set : ℕ) → is_set set ≡ true → (is_set_line (digits 2 set) ≡ true) × (number (digits 2 set) ≡ set)

abbrev pub SetLineOnly : Type 0
SetLineOnly = (line : List ℕ) → is_set_line line ≡ true → (is_set (number line) ≡ true) × (line ≡ digits 2 (number line))

-- the logs of pieces, joined: each is fed, and at the end of the input what has begun ends
unfoldable pub pieces_log : Reading → State → ℕ → List ℕ → List ℕ → List (List ℕ) → List ℕ
pieces_log r st start memory begun [] = (ended_input r st start memory begun).log
pieces_log r st start memory begun (p ∷ more) =
    let f = fed_input r st start memory begun p in
    f.log ++ pieces_log f.reading f.state start f.memory f.begun more

-- `input_joined`: wherever the pieces of an input end, in the set line or past it, their logs joined are its log
abbrev pub InputJoined : Type 0
InputJoined = (pieces : List (List ℕ)) → pieces_log (FirstLine Nothing) reset_state 0 zero_words [] pieces ≡ input_log (joined pieces)

-- how far the reading of an input has come with its first bytes
abbrev pub after : List ℕ → Reading
after xs = (passing (FirstLine Nothing) xs).reading

-- `over_at_once`: the reading is over as soon as no bytes that may follow make the first line one of a set, and not before
pub record OverAt (xs : List ℕ) : Type 0 where
  pub known : after xs ≡ Over → (ys : List ℕ) → is_set_line (line_at (xs ++ ys) 0) ≡ false
  pub not_before : ((ys : List ℕ) → is_set_line (line_at (xs ++ ys) 0) ≡ false) → after xs ≡ Over

abbrev pub OverAtOnce : Type 0
OverAtOnce = (xs : List ℕ) → OverAt xs

-- `set_chosen`: a set's number in two digits and LF, then a text: the log is that text's under the set
abbrev pub SetChosen : Type 0
SetChosen = (set : ℕ) (text : List ℕ) → is_set set ≡ true → input_log (digits 2 set ++ (lf ∷ text)) ≡ program_log set text

-- `inputs_cut`: the logs of one text under any two sets, chosen by the first line, cut, are the same bytes
abbrev pub InputsCut : Type 0
InputsCut =
    (set other : ℕ) (text : List ℕ) → is_set set ≡ true → is_set other ≡ true
    → cut (input_log (digits 2 set ++ (lf ∷ text))) ≡ cut (input_log (digits 2 other ++ (lf ∷ text)))

-- `unknown_set_lem`: a first line that is neither 00 nor 01, also an empty one or none: the log is the one line of code 15, whatever follows
abbrev pub UnknownSet : Type 0
UnknownSet = (input : List ℕ) → (line_at input 0 ≡ bytes "00" → ⊥) → (line_at input 0 ≡ bytes "01" → ⊥) → input_log input ≡ bytes "0F0000000000000000000 unknown label set\n"

-- `set_at_end`: a set line that the end of the input ends, without LF, is one: it is not refused, and the log is empty
abbrev pub SetAtEnd : Type 0
SetAtEnd = (input_log (bytes "00") ≡ []) × (input_log (bytes "01") ≡ [])
