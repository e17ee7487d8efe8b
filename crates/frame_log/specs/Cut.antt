-- Logs with their labels cut off (document 02, Ask 1): under any sets they are the same bytes.
use Rattle.std.specs.Prelude.{◌≡◌, ℕ, ◌+◌, Bool, true, false, cond, ◌||◌, List, [], ◌∷◌, ◌++◌, length, ◌==◌}
use Rattle.machine.specs.State.{State}
use Rattle.machine.specs.declared.Answer.{Answer}
use Rattle.lines.specs.Lines.{lf}
use Rattle.logline.specs.Labels.{label_of}
use Rattle.logline.specs.LogLine.{numbers}
use Rattle.frame_log.specs.Log.{log_of}
use Rattle.frame_log.specs.Results.{text_run}
use Rattle.frame_log.specs.Promises.{program_log}

-- what a reader of logs does to their bytes: of each line all before its first space is kept, and its LF; `past`: that space has come
unfoldable pub cut_from : Bool → List ℕ → List ℕ
cut_from past [] = []
cut_from past (x ∷ xs) = cond (x == lf) (x ∷ cut_from false xs) (cond (past || x == 32) (cut_from true xs) (x ∷ cut_from false xs))

abbrev pub cut : List ℕ → List ℕ
cut log = cut_from false log

-- the numbers of each answer, and LF
unfoldable pub numbers_of : List Answer → List ℕ
numbers_of [] = []
numbers_of (a ∷ more) = numbers a ++ (lf ∷ numbers_of more)

-- `cut_numbers`: what is left of a log are the numbers of its answers
abbrev pub CutNumbers : Type 0
CutNumbers = (set : ℕ) (answers : List Answer) → cut (log_of set answers) ≡ numbers_of answers

-- `cut_same`: so the logs of any text under any two sets, cut, are the same bytes
abbrev pub CutSame : Type 0
CutSame = (set other : ℕ) (text : List ℕ) → cut (program_log set text) ≡ cut (program_log other text)

-- `set_apart`: what a run leaves in controller and memory does not depend on the set
abbrev pub SetApart : Type 0
SetApart =
    (set other : ℕ) (st : State) (start : ℕ) (memory text out : List ℕ)
    → ((text_run set st start memory text out).state ≡ (text_run other st start memory text out).state)
    × ((text_run set st start memory text out).memory ≡ (text_run other st start memory text out).memory)

-- the bytes of the labels of answers
unfoldable pub label_bytes : ℕ → List Answer → ℕ
label_bytes set [] = 0
label_bytes set (a ∷ more) = length (label_of set a.code) + label_bytes set more

-- `lengths_apart`: two logs of the same answers differ in length by their labels and by nothing else
abbrev pub LengthsApart : Type 0
LengthsApart = (set other : ℕ) (answers : List Answer) → length (log_of set answers) + label_bytes other answers ≡ length (log_of other answers) + label_bytes set answers
