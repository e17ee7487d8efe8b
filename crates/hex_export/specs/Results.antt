-- What the public functions answer and leave.
use Rattle.std.specs.Prelude.{ℕ, cond, Result, Ok, Err, List, ◌++◌, length, drop, ltb}
use Rattle.machine.specs.declared.codes.Refusal.{Refusal}
use Rattle.machine.specs.declared.codes.Refusal.TheVariants.{WindowOutOfForm, OutputTooShort}
use Rattle.machine.specs.Window.{is_window_out_of_form}
use Rattle.records.specs.Export.{export_of, export_length}

-- how long the export of so many words is, or that their window is out of form
unfoldable pub length_of : ℕ → ℕ → Result ℕ Refusal
length_of start words = cond (is_window_out_of_form start words) (Err WindowOutOfForm) (Ok (export_length start words))

-- an answer, and the output after it
pub record Export : Type 0 where
  pub answer : Result ℕ Refusal
  pub out : List ℕ

-- The window's form is looked at first, then the room; a refusal leaves the output as it was. Else the text stands at the output's start, and past
-- it nothing has changed.
unfoldable pub exported_to : ℕ → List ℕ → List ℕ → Export
exported_to start words out =
    let text = export_of start words in
    cond (is_window_out_of_form start (length words)) (record { answer = Err WindowOutOfForm; out = out })
    (cond (ltb (length out) (length text)) (record { answer = Err OutputTooShort; out = out })
    (record { answer = Ok (length text); out = text ++ drop (length text) out }))
