-- A part of the state after any step, by what a reset, a done step, an abort and a refusal leave of it.
use Prim.Native.Nat.{ℕ, suc}
use mathlib.Core.Path.{◌≡◌, refl, ◌∙◌}
use mathlib.Core.Bool.{Bool, true, false, cond, ◌||◌}
use lib.Dec.{eqb, eqb-suc-zero}
use Rattle.machine.specs.State.{State, reset_state}
use Rattle.machine.specs.Access.{Access, is_reset}
use Rattle.machine.specs.Step.{done_state, state_after, aborted_state}
use Rattle.laws.proofs.Tests.{cond_part}

cond_same : {A : Type 0} (b : Bool) (s t : A) → s ≡ t → cond b s t ≡ t
cond_same true s t e = e
cond_same false s t e = refl

cond_or : {A : Type 0} (b c : Bool) (s t : A) → cond b s (cond c s t) ≡ cond (b || c) s t
cond_or true c s t = refl
cond_or false c s t = refl

module _ {A : Type 0} (P : State → A) (st : State) (x : Access) where
  -- refused or aborted, for a part that an abort leaves as it was
  pub part-refused : (c word : ℕ) → P (aborted_state st) ≡ P st → P (state_after st x (suc c) word) ≡ P st
  unfolding state_after
  part-refused c word e = rw (eqb-suc-zero c) (cond_part P (eqb (suc c) 13) (aborted_state st) st ∙ cond_same (eqb (suc c) 13) _ (P st) e)

  -- done, for a part that a reset makes `fresh` and a done step by the rule `cond c fresh t`
  pub part-done : (word : ℕ) (c : Bool) (fresh t : A) → P reset_state ≡ fresh → P (done_state st x word) ≡ cond c fresh t
      → P (state_after st x 0 word) ≡ cond (is_reset x.kind || c) fresh t
  unfolding state_after
  part-done word c fresh t e f =
      cond_part P (is_reset x.kind) reset_state (done_state st x word) ∙ (λ i. cond (is_reset x.kind) (e i) (f i)) ∙ cond_or (is_reset x.kind) c fresh t
