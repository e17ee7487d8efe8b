-- A step and its answer, as a recorder sees them.
use Rattle.std.specs.Prelude.{List, map}
use Rattle.machine.specs.declared.Step.{Step}
use Rattle.machine.specs.declared.Answer.{Answer}

pub record Event : Type 0 where
  pub step : Step
  pub answer : Answer

-- an answer as the log shows it: without the marks that changed (Ask 2)
abbrev pub logged : Answer → Answer
logged a = record { code = a.code; address = a.address; value = a.value; enables = a.enables; line = a.line; addon_line = a.addon_line; changed = 0 }

abbrev pub logged_answers : List Event → List Answer
logged_answers es = map (λ (e : Event). logged e.answer) es

abbrev pub answers : List Event → List Answer
answers es = map (λ (e : Event). e.answer) es
