-- How tight the contracts are: four worthless models, each with a free choice of all that its vice leaves open, and what each breaks.
use Rattle.std.specs.Prelude.{ℕ, suc, ◌≡◌, true, List, [], ◌∷◌, map}
use Rattle.machine.specs.State.{State, reset_state}
use Rattle.machine.specs.Step.{step_of}
use Rattle.machine.specs.Event.{Event}
use Rattle.machine.specs.Run.{Rule, Run, run_of}
use Rattle.machine.specs.Examples.{MeetsTable, marked}
use Rattle.promises.specs.Account.{is_port_write}
use Rattle.promises.specs.Theorems.{KeepsFifoAccount}
use Rattle.machine.specs.declared.Step.{Step}
use Rattle.machine.specs.declared.Answer.{Answer}

-- one that refuses everything: it does as any rule does, but its code is never 0
abbrev pub not_done : Answer → Answer
not_done a = record { code = suc a.code; address = a.address; value = a.value; enables = a.enables; line = a.line; addon_line = a.addon_line; changed = a.changed }

abbrev pub refusing : Rule → Rule
refusing rule st start memory s =
    let o = rule st start memory s in record { state = o.state; memory = o.memory; answer = not_done o.answer }

-- one that answers a constant: state and memory go by any rule
abbrev pub constant : Answer → Rule → Rule
constant answer rule st start memory s =
    let o = rule st start memory s in record { state = o.state; memory = o.memory; answer = answer }

-- one that never changes state or memory: it answers as it likes
abbrev pub still : (State → ℕ → List ℕ → Step → Answer) → Rule
still answer st start memory s = record { state = st; memory = memory; answer = answer st start memory s }

-- one that handles the first step, and answers each later one by its own numbers alone
abbrev pub first_only : (Step → Answer) → Run
first_only echo st start memory [] = record { state = st; memory = memory; events = [] }
first_only echo st start memory (s ∷ ss) =
    let o = step_of st start memory s in
    let rest : List Event = map (λ (t : Step). record { step = t; answer = echo t }) ss in
    record { state = o.state; memory = o.memory; events = record { step = s; answer = o.answer } ∷ rest }

-- `refusing_fails`, `constant_fails`, `still_fails`, `first_only_fails`: none of them shows what the marked examples expect
abbrev pub RefusingFails : Type 0
RefusingFails = (rule : Rule) → MeetsTable (run_of (refusing rule)) marked → ⊥

abbrev pub ConstantFails : Type 0
ConstantFails = (answer : Answer) (rule : Rule) → MeetsTable (run_of (constant answer rule)) marked → ⊥

abbrev pub StillFails : Type 0
StillFails = (answer : State → ℕ → List ℕ → Step → Answer) → MeetsTable (run_of (still answer)) marked → ⊥

abbrev pub FirstOnlyFails : Type 0
FirstOnlyFails = (echo : Step → Answer) → MeetsTable (first_only echo) marked → ⊥

-- `constant_breaks`, `still_breaks`: with code 0 for a port write, they break the FIFO account too
abbrev pub ConstantBreaks : Type 0
ConstantBreaks =
    (answer : Answer) (rule : Rule) → answer.code ≡ 0 → KeepsFifoAccount (constant answer rule) → ⊥

abbrev pub StillBreaks : Type 0
StillBreaks =
    (answer : State → ℕ → List ℕ → Step → Answer) (start : ℕ) (memory : List ℕ) (s : Step) → is_port_write s ≡ true
    → (answer reset_state start memory s).code ≡ 0 → KeepsFifoAccount (still answer) → ⊥
