-- A run: a list of steps, one after the other, over one window.
use Rattle.std.specs.Prelude.{ℕ, List, [], ◌∷◌}
use Rattle.machine.specs.State.{State}
use Rattle.machine.specs.Step.{Outcome, step_of}
use Rattle.machine.specs.Event.{Event}
use Rattle.machine.specs.declared.Step.{Step}

-- what a run leaves, and the steps with their answers
pub record RunOutcome : Type 0 where
  pub state : State
  pub memory : List ℕ
  pub events : List Event

-- from a state, a start, a memory and steps: what a run is
abbrev pub Run : Type 0
Run = State → ℕ → List ℕ → List Step → RunOutcome

-- a rule for one step
abbrev pub Rule : Type 0
Rule = State → ℕ → List ℕ → Step → Outcome

-- step by step
abbrev pub run_of : Rule → Run
run_of rule st start memory [] = record { state = st; memory = memory; events = [] }
run_of rule st start memory (s ∷ ss) =
    let o = rule st start memory s in
    let r = run_of rule o.state start o.memory ss in
    record { state = r.state; memory = r.memory; events = record { step = s; answer = o.answer } ∷ r.events }

-- the machine's
abbrev pub run : Run
run st start memory steps = run_of step_of st start memory steps
