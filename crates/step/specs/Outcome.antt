-- The machine's outcome that a stepped controller, its answer and the memory at exit stand for.
use Rattle.std.specs.Prelude.{ℕ, List}
use Rattle.machine.specs.Step.{Outcome}
use Rattle.controller.specs.Controller.{state_of}
use Rattle.step.specs.declared.Stepped.{Stepped}

abbrev pub outcome_of : Stepped → List ℕ → Outcome
outcome_of r memory = record { state = state_of r.controller; memory = memory; answer = r.answer }
