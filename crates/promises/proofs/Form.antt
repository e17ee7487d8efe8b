-- A step leaves a state in form in form; so from reset no step answers 1.
use Prim.Native.Nat.{ℕ}
use mathlib.Core.Path.{◌≡◌, refl, sym, ◌∙◌}
use mathlib.Core.Bool.{Bool, true, false}
use mathlib.Core.List.{List, [], ◌∷◌}
use lib.Dec.{eqb}
use lib.ListN.{length}
use borrow.Author.Tests.{eqb-true}
use Rattle.machine.specs.State.{State, reset_state}
use Rattle.machine.specs.Access.{Access, access_of}
use Rattle.machine.specs.Code.{code_of, tests, is_out_of_form, test_of}
use Rattle.machine.specs.Step.{step_of, respond, answered}
use Rattle.machine.specs.Event.{Event}
use Rattle.machine.specs.Run.{run}
use Rattle.promises.specs.Account.{Every}
use Rattle.promises.specs.Theorems.{FormKept, NeverOutOfForm}
use Rattle.machine.specs.declared.Step.{Step}
use Rattle.promises.proofs.First.{first_code}
use Rattle.laws.proofs.Form as laws

pub form_kept : FormKept
form_kept = laws.form_kept

-- ---- a run

-- in form, the code is not 1
in_form_code : (st : State) (start words : ℕ) (x : Access) → is_out_of_form st ≡ false → eqb (code_of st start words x) 1 ≡ false
in_form_code st start words x e = by (eqb (code_of st start words x) 1) refl
  where
    by : (b : Bool) → eqb (code_of st start words x) 1 ≡ b → b ≡ false
    by true q =
        let one = eqb-true (code_of st start words x) 1 q in
        let applies : test_of 1 (tests st start words x) ≡ true = rw one at ((first_code st start words x).applies (rw one)) in
        sym applies ∙ e
    by false q = refl

run_form : (start : ℕ) (steps : List Step) (st : State) (memory : List ℕ) → is_out_of_form st ≡ false
    → Every (λ (e : Event). eqb e.answer.code 1 ≡ false) (run st start memory steps).events
unfolding step_of respond answered
run_form start [] st memory e = tt
run_form start (s ∷ ss) st memory e =
    (in_form_code st start (length memory) (access_of s) e, run_form start ss _ _ (form_kept st start memory s e))

pub never_out_of_form : NeverOutOfForm
never_out_of_form start memory steps = run_form start steps reset_state memory laws.reset_form
