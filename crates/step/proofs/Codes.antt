-- The code of a step in parts: the codes of form first, then those of its kind.
use Prim.Native.Nat.{ℕ, zero, suc, ◌<◌}
use mathlib.Core.Path.{◌≡◌, refl, sym, ap, ◌∙◌}
use mathlib.Core.Bool.{Bool, true, false, cond, not, ◌&&◌, true≢false, false≢true}
use mathlib.Core.List.{List}
use native.Mathlib.Decide.{ℕ_discrete}
use native.Mathlib.Omega.{arith}
use lib.Dec.{eqb}
use lib.ListN.{length, drop}
use Rattle.machine.specs.Sides.{Side, pci, addon}
use Rattle.machine.specs.State.{State, reset_state}
use Rattle.machine.specs.Access.{Access, Kind, reading, writing, cycle, chip_reset, unknown, kind_of, access_of, is_access, is_unknown}
use Rattle.std.proofs.Common.{Result, Ok, Err}
use Rattle.machine.specs.Refusals.{refusal_number, kind_at, kind_named}
use Rattle.machine.specs.declared.codes.Refusal.{Refusal}
use Rattle.machine.specs.declared.kinds.StepKind.{StepKind}
use Rattle.machine.specs.Window.{is_window_out_of_form}
use Rattle.machine.specs.Code.{is_out_of_form, is_unknown_offset, has_bad_enables, is_part_fifo_access, is_read_only_write, is_full_or_empty, is_transfer_off, is_count_zero, is_abort_standing, is_not_ready, is_no_memory, tests, first_of, code_of}
use Rattle.machine.specs.Step.{Outcome, nothing, done_reply, reply_of, answered, state_after, memory_after, respond, step_of}
use Rattle.machine.specs.declared.Step.{Step}
use Rattle.laws.proofs.Form.{form_kept}
use Rattle.refusal.specs.Codes.{form_code, access_code, cycle_code, cycle_by}
use Rattle.refusal.proofs.Tables.{no_cycle}
use Rattle.step.specs.Parts.{told_step, ToldRightly}
use Rattle.step.proofs.Laws.{refusal}

-- ---- the codes from 3 on, by kind

abbrev rest : State → ℕ → ℕ → Access → ℕ
rest st start words x = first_of (drop 2 (tests st start words x))

module _ (st : State) (start words : ℕ) where
  known : (k : Kind) → is_access k ≡ true → is_unknown k ≡ false
  known (reading by) h = refl
  known (writing by) h = refl
  known (cycle side) h = refl
  known chip_reset h = refl
  known unknown h = absurd (false≢true h)

  pub code-of-access : (s : Step) → is_access (kind_of s.kind) ≡ true → rest st start words (access_of s) ≡ access_code st (access_of s)
  code-of-access s h = rw (known (kind_of s.kind) h) (simp (no_cycle st start words (access_of s) h))

  pub code-of-cycle : (side : Side) (offset enables value : ℕ) → rest st start words (cycle_by side offset enables value) ≡ cycle_code side st start words
  unfolding is_unknown_offset has_bad_enables is_part_fifo_access is_read_only_write is_full_or_empty is_transfer_off is_count_zero is_abort_standing is_not_ready is_no_memory
  code-of-cycle pci offset enables value = refl
  code-of-cycle addon offset enables value = refl

  pub code-of-reset : (s : Step) → kind_of s.kind ≡ chip_reset → rest st start words (access_of s) ≡ 0
  unfolding is_unknown_offset has_bad_enables is_part_fifo_access is_read_only_write is_full_or_empty is_transfer_off is_count_zero is_abort_standing is_not_ready is_no_memory
  code-of-reset s k = rw k

  pub code-of-unknown : (s : Step) → kind_of s.kind ≡ unknown → rest st start words (access_of s) ≡ 3
  code-of-unknown s k = rw k

-- ---- the kind of a number

pub named_by : (n : ℕ) → kind_of n ≡ kind_named (kind_at n)
named_by zero = refl
named_by (suc zero) = refl
named_by (suc (suc zero)) = refl
named_by (suc (suc (suc zero))) = refl
named_by (suc (suc (suc (suc zero)))) = refl
named_by (suc (suc (suc (suc (suc zero))))) = refl
named_by (suc (suc (suc (suc (suc (suc zero)))))) = refl
named_by (suc (suc (suc (suc (suc (suc (suc n))))))) = refl

pub named-as : (n : ℕ) (k of : StepKind) → Ok k ≡ kind_at n → k ≡ of → kind_of n ≡ kind_named (Ok of)
named-as n k of is e = named_by n ∙ sym (ap kind_named is) ∙ ap (λ (j : StepKind). kind_named (Ok j)) e

pub unnamed : (n : ℕ) (r : Refusal) → Err r ≡ kind_at n → (kind_of n ≡ unknown) × (refusal_number r ≡ 3)
unnamed n r is = (named_by n ∙ sym (ap kind_named is), ap number is ∙ by n)
  where
    number : Result StepKind Refusal → ℕ
    number (Ok k) = 3
    number (Err q) = refusal_number q

    by : (m : ℕ) → number (kind_at m) ≡ 3
    by zero = refl
    by (suc zero) = refl
    by (suc (suc zero)) = refl
    by (suc (suc (suc zero))) = refl
    by (suc (suc (suc (suc zero)))) = refl
    by (suc (suc (suc (suc (suc zero))))) = refl
    by (suc (suc (suc (suc (suc (suc zero)))))) = refl
    by (suc (suc (suc (suc (suc (suc (suc m))))))) = refl

-- ---- the code of form, told rightly

abbrev first : Bool → Bool → ℕ → ℕ
first o w past = cond o 1 (cond w 2 past)

told : (st : State) (start : ℕ) (memory : List ℕ) (x : Access) (past : ℕ) (o w : Bool)
    → cond (eqb (first o w 0) 0) (respond st start memory x past) (record { state = st; memory = memory; answer = answered st (first o w 0) nothing }) ≡ respond st start memory x (first o w past)
told st start memory x past true w = refusal st start memory x 1 (λ e. omega arith) (λ e. omega arith)
told st start memory x past false true = refusal st start memory x 2 (λ e. omega arith) (λ e. omega arith)
told st start memory x past false false = refl

pub told_rightly : ToldRightly
unfolding told_step form_code code_of step_of
told_rightly st start memory s = told st start memory (access_of s) _ (is_out_of_form st) (is_window_out_of_form start (length memory))

pub told_as : (form : ℕ) (st : State) (start : ℕ) (memory : List ℕ) (s : Step) (o : Outcome) → form ≡ form_code st start (length memory) → o ≡ told_step form st start memory s → o ≡ step_of st start memory s
told_as form st start memory s o f e = e ∙ ap (λ n. told_step n st start memory s) f ∙ told_rightly st start memory s

-- ---- a reset

pub reset_step : (st : State) (start : ℕ) (memory : List ℕ) (s : Step) → kind_of s.kind ≡ chip_reset → record { state = reset_state; memory = memory; answer = answered reset_state 0 nothing } ≡ respond st start memory (access_of s) 0
unfolding respond reply_of done_reply state_after memory_after
reset_step st start memory s k = rw k

-- ---- no step changes the form

by_form : (o w : Bool) → first o w 0 ≡ 0 → o ≡ false
by_form true w e = absurd (omega arith)
by_form false w e = refl

refused_by : (o w : Bool) (past : ℕ) → (first o w 0 ≡ 0 → ⊥) → (first o w past ≡ first o w 0) × (first o w 0 < 3)
refused_by true w past other = (refl, omega arith)
refused_by false true past other = (refl, omega arith)
refused_by false false past other = absurd (other refl)

module _ (st : State) (start : ℕ) (memory : List ℕ) (s : Step) where
  abbrev words : ℕ
  words = length memory

  in-form : form_code st start words ≡ 0 → is_out_of_form st ≡ false
  unfolding form_code
  in-form e = by_form (is_out_of_form st) (is_window_out_of_form start words) e

  out-of-form : (form_code st start words ≡ 0 → ⊥) → (code_of st start words (access_of s) ≡ form_code st start words) × (form_code st start words < 3)
  unfolding code_of form_code
  out-of-form other = refused_by (is_out_of_form st) (is_window_out_of_form start words) _ other

  stays : Dec (form_code st start words ≡ 0) → form_code (step_of st start memory s).state start words ≡ form_code st start words
  unfolding form_code step_of
  stays (yes e) = rw (form_kept st start memory s (in-form e), in-form e)
  stays (no e) =
      let c = out-of-form e in
      let same = refusal st start memory (access_of s) (code_of st start words (access_of s)) (λ z. e (sym c.0 ∙ z)) (λ z. omega (arith, c.0, c.1)) in
      ap (λ (o : Outcome). form_code o.state start words) (sym same)

  pub form-stays : form_code (step_of st start memory s).state start words ≡ form_code st start words
  form-stays = stays (ℕ_discrete (form_code st start words) 0)

-- ---- neither done nor code 13

pub neither_code : (a b : Bool) → (not a && not b) ≡ false → a ≡ false → b ≡ false → ⊥
neither_code true b h e f = true≢false e
neither_code false true h e f = true≢false f
neither_code false false h e f = true≢false h
