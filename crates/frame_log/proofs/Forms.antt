-- No line changes which code of form applies.
use Rattle.std.proofs.Common.{◌≡◌, ℕ, Option, Some, None, List, length, refl}
use Rattle.machine.specs.State.{State}
use Rattle.machine.specs.declared.Step.{Step}
use Rattle.frame.specs.Frame.{framed_outcome}
use Rattle.refusal.specs.Codes.{form_code}
use Rattle.step.proofs.Codes.{form-stays}

pub framed_form : (f : Option Step) (st : State) (start : ℕ) (memory : List ℕ) → form_code (framed_outcome f st start memory).state start (length memory) ≡ form_code st start (length memory)
unfolding framed_outcome
framed_form (Some s) st start memory = form-stays st start memory s
framed_form None st start memory = refl
