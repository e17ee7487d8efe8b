-- Frames and the log, last sentence: the step on a controller in place gives what the step by value gives.
use Rattle.std.specs.Prelude.{ℕ, List}
use Rattle.machine.specs.declared.Step.{Step}
use Rattle.machine.specs.declared.Answer.{Answer}
use Rattle.controller.specs.declared.Controller.{Controller}
use Rattle.step.specs.declared.Stepped.{Stepped}
use Rattle.step.specs.Unique.{StepPromised, SameStep}

-- the controller left behind the reference and the answer, as the by-value step gives them
abbrev pub stepped_to : Controller → Answer → Stepped
stepped_to left a = record { controller = left; answer = a }

-- `in_place_equal`: a result of `step::step` and one of `step_in_place`, each of which meets its contract, are the same: state, answer and memory, and where
-- refused the controllers to the letter
abbrev pub InPlaceEqual : Type 0
InPlaceEqual =
    (c : Controller) (start : ℕ) (memory : List ℕ) (s : Step) (r : Stepped) (after : List ℕ) (left : Controller) (a : Answer) (also : List ℕ)
    → StepPromised c start memory s r after → StepPromised c start memory s (stepped_to left a) also → SameStep r (stepped_to left a) after also
