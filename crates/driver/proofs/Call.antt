-- What is promised of the C call for a step besides its contract.
use Prim.Native.Nat.{ℕ}
use mathlib.Core.Path.{◌≡◌, refl, sym, ap, ◌∙◌}
use mathlib.Core.Bool.{Bool, true, false, cond}
use mathlib.Core.List.{List, [], ◌∷◌, map}
use native.Mathlib.Omega.{arith}
use lib.Dec.{eqb}
use lib.IntN.{ℤ, pos, negsuc, pos-ne-negsuc}
use lib.ListN.{length, replicate}
use borrow.Author.Tests.{eqb-true, eqb-false, ne_eqb}
use Rattle.machine.specs.Step.{answered, step_of}
use Rattle.machine.specs.Event.{Event}
use Rattle.machine.specs.Run.{run}
use Rattle.machine.specs.declared.Step.{Step}
use Rattle.machine.specs.declared.Answer.{Answer}
use Rattle.laws.proofs.Refused.{refused}
use Rattle.promises.specs.Theorems.{AbortOnly}
use Rattle.promises.specs.Readings.{is_one_of}
use Rattle.promises.specs.CodeTable.{step_codes}
use Rattle.promises.proofs.CodeTable.{numbered}
use Rattle.promises.proofs.Refused.{aborted}
use Rattle.bank.specs.Words.{one_if, state_of_words, is_controller}
use Rattle.bank.proofs.Words.{zeros_are_reset}
use Rattle.driver.proofs.Words.{of_none, of_one}
use Rattle.driver.specs.Call.{no_controller, step_of_words, words_of_answer, StepPromised, SameCall, StepCallUnique, StepCallRule, none, call, CallsRun, CallsFromZeros, left_over, state_over, CallsGiven, CallsAlike}

-- the number that is returned
abbrev number : ℤ → ℕ
number (pos n) = n
number (negsuc n) = 0

-- a number that is not returned is not the code
other_code : (r : ℤ) (code n : ℕ) → r ≡ pos code → (r ≡ pos n → ⊥) → eqb code n ≡ false
other_code r code n e other = ne_eqb code n (λ same. other (e ∙ ap pos same))

module _ (words : List ℕ) (start : ℕ) (memory : List ℕ) (s : Step) (answer : List ℕ) where
  unique-by : (asked : Bool) → eqb (length answer) 7 ≡ asked → (r q : ℤ) (words₁ words₂ memory₁ memory₂ answer₁ answer₂ : List ℕ)
      → StepPromised words start memory s answer r words₁ memory₁ answer₁ → StepPromised words start memory s answer q words₂ memory₂ answer₂
      → SameCall r q words₁ words₂ memory₁ memory₂ answer₁ answer₂
  unique-by true h r q words₁ words₂ memory₁ memory₂ answer₁ answer₂ p o =
      let t = p.told (eqb-true (length answer) 7 h) in
      let u = o.told (eqb-true (length answer) 7 h) in
      let code = (step_of_words words start memory s).answer.code in
      record {
        result = t.result ∙ sym u.result;
        answer = t.answer ∙ sym u.answer;
        memory = t.memory ∙ sym u.memory;
        state = t.state ∙ sym u.state;
        controller = t.still ∙ sym u.still;
        refused = λ zero abort.
            let z = other_code r code 0 t.result zero in
            let a = other_code r code 13 t.result abort in
            t.refused z a ∙ sym (u.refused z a);
      }
  unique-by false h r q words₁ words₂ memory₁ memory₂ answer₁ answer₂ p o =
      let t = p.unasked (eqb-false (length answer) 7 h) in
      let u = o.unasked (eqb-false (length answer) 7 h) in
      let same : words₁ ≡ words₂ = t.1.0 ∙ sym u.1.0 in
      record {
        result = t.0 ∙ sym u.0;
        answer = t.1.1.1 ∙ sym u.1.1.1;
        memory = t.1.1.0 ∙ sym u.1.1.0;
        state = ap state_of_words same;
        controller = ap is_controller same;
        refused = λ zero abort. same;
      }

pub step_call_unique : StepCallUnique
step_call_unique words start memory s answer = unique-by words start memory s answer (eqb (length answer) 7) refl

-- ---- in numbers

module _ (words : List ℕ) (start : ℕ) (memory : List ℕ) (s : Step) where
  code_by : (one : Bool) → is_one_of step_codes (cond one (step_of (state_of_words words) start memory s) (no_controller words memory)).answer.code ≡ true
  unfolding answered
  code_by true = numbered (state_of_words words) start memory s
  code_by false = refl

  pub step-code : is_one_of step_codes (step_of_words words start memory s).answer.code ≡ true
  unfolding step_of_words
  step-code = code_by (is_controller words)

  memory-by : (one : Bool)
      → (let o = cond one (step_of (state_of_words words) start memory s) (no_controller words memory) in
      eqb o.answer.code 0 ≡ false → eqb o.answer.code 13 ≡ false → o.memory ≡ memory)
  memory-by true zero abort = λ i. (refused (state_of_words words) start memory s zero abort i).memory
  memory-by false zero abort = refl

  memory-stays : eqb (step_of_words words start memory s).answer.code 0 ≡ false → eqb (step_of_words words start memory s).answer.code 13 ≡ false
      → (step_of_words words start memory s).memory ≡ memory
  unfolding step_of_words
  memory-stays = memory-by (is_controller words)

  stays_by : (answer : List ℕ) (asked : Bool) → eqb (length answer) 7 ≡ asked → (r : ℤ) (words' memory' answer' : List ℕ)
      → StepPromised words start memory s answer r words' memory' answer' → (r ≡ pos 0 → ⊥) → (r ≡ pos 13 → ⊥) → (words' ≡ words) × (memory' ≡ memory)
  stays_by answer true h r words' memory' answer' p zero abort =
      let t = p.told (eqb-true (length answer) 7 h) in
      let code = (step_of_words words start memory s).answer.code in
      let z = other_code r code 0 t.result zero in
      let a = other_code r code 13 t.result abort in
      (t.refused z a, t.memory ∙ memory-stays z a)
  stays_by answer false h r words' memory' answer' p zero abort =
      let t = p.unasked (eqb-false (length answer) 7 h) in
      (t.1.0, t.1.1.0)

  -- code 13 is a controller's
  abort-by : (one : Bool) → is_controller words ≡ one → (step_of_words words start memory s).answer.code ≡ 13 → AbortOnly (state_of_words words) (step_of_words words start memory s).state × ((step_of_words words start memory s).memory ≡ memory)
  unfolding answered
  abort-by true h e =
      let o = of_one words start memory s h in
      let a = aborted (state_of_words words) start memory s (sym (λ i. (o i).answer.code) ∙ e) in
      rw o (a.0, a.1.0)
  abort-by false h e =
      let one : (step_of_words words start memory s).answer.code ≡ 1 = λ i. (of_none words start memory s h i).answer.code in
      absurd (omega (arith, e, one))

  aborts-by : (answer : List ℕ) (asked : Bool) → eqb (length answer) 7 ≡ asked → (r : ℤ) (words' memory' answer' : List ℕ)
      → StepPromised words start memory s answer r words' memory' answer' → r ≡ pos 13 → AbortOnly (state_of_words words) (state_of_words words') × (memory' ≡ memory)
  aborts-by answer true h r words' memory' answer' p e =
      let t = p.told (eqb-true (length answer) 7 h) in
      let a = abort-by (is_controller words) refl (ap number (sym t.result ∙ e)) in
      (rw t.state a.0, t.memory ∙ a.1)
  aborts-by answer false h r words' memory' answer' p e = absurd (pos-ne-negsuc 13 0 (sym e ∙ (p.unasked (eqb-false (length answer) 7 h)).0))

  still-by : (answer : List ℕ) (asked : Bool) → eqb (length answer) 7 ≡ asked → (r : ℤ) (words' memory' answer' : List ℕ)
      → StepPromised words start memory s answer r words' memory' answer' → is_controller words' ≡ is_controller words
  still-by answer true h r words' memory' answer' p = (p.told (eqb-true (length answer) 7 h)).still
  still-by answer false h r words' memory' answer' p = ap is_controller (p.unasked (eqb-false (length answer) 7 h)).1.0

  none_told : is_controller words ≡ false → ((step_of_words words start memory s).answer.code ≡ 1) × (words_of_answer (step_of_words words start memory s).answer ≡ 1 ∷ 0 ∷ 0 ∷ 0 ∷ 0 ∷ 0 ∷ 0 ∷ [])
  unfolding answered words_of_answer
  none_told h =
      let e = of_none words start memory s h in
      ((λ i. (e i).answer.code), λ i. words_of_answer (e i).answer)

abbrev rest_of : Answer → List ℕ
rest_of a = a.address ∷ a.value ∷ a.enables ∷ one_if a.line ∷ one_if a.addon_line ∷ a.changed ∷ []

pub step_call_rule : StepCallRule
unfolding words_of_answer
step_call_rule words start memory s answer r words' memory' answer' p =
    let o = step_of_words words start memory s in
    record {
      unasked = p.unasked;
      coded = λ asked. (o.answer.code, ((p.told asked).result, (step-code words start memory s, (rest_of o.answer, ((p.told asked).answer, refl)))));
      none = λ asked h. ((p.told asked).result ∙ ap pos (none_told words start memory s h).0, (p.told asked).answer ∙ (none_told words start memory s h).1);
      refused = stays_by words start memory s answer (eqb (length answer) 7) refl r words' memory' answer' p;
      aborted = aborts-by words start memory s answer (eqb (length answer) 7) refl r words' memory' answer' p;
      still = still-by words start memory s answer (eqb (length answer) 7) refl r words' memory' answer' p;
    }

-- ---- calls one after the other

pub calls_run : CallsRun
calls_run start words memory steps answers words' memory' h none = record { answers = refl; controller = h; state = refl; memory = refl }
calls_run start words memory steps answers words'' memory'' h (call {words' = words'} {memory' = memory'} {steps = more} {answers = told} {answer' = answer'} s answer r asked p rest) =
    let t = p.told asked in
    let e = of_one words start memory s h in
    let state : state_of_words words' ≡ (step_of (state_of_words words) start memory s).state = t.state ∙ (λ i. (e i).state) in
    let left : memory' ≡ (step_of (state_of_words words) start memory s).memory = t.memory ∙ (λ i. (e i).memory) in
    let first : answer' ≡ words_of_answer (step_of (state_of_words words) start memory s).answer = t.answer ∙ (λ i. words_of_answer (e i).answer) in
    let q = calls_run start words' memory' more told words'' memory'' (t.still ∙ h) rest in
    let others : told ≡ map (λ (e : Event). words_of_answer e.answer) (run (step_of (state_of_words words) start memory s).state start (step_of (state_of_words words) start memory s).memory more).events =
    q.answers ∙ (λ i. map (λ (e : Event). words_of_answer e.answer) (run (state i) start (left i) more).events) in
    record {
      answers = λ i. first i ∷ others i;
      controller = q.controller;
      state = q.state ∙ (λ i. (run (state i) start (left i) more).state);
      memory = q.memory ∙ (λ i. (run (state i) start (left i) more).memory);
    }

pub calls_from_zeros : CallsFromZeros
calls_from_zeros start memory steps answers words' memory' c =
    let q = calls_run start (replicate 38 0) memory steps answers words' memory' zeros_are_reset.0 c in
    let z = zeros_are_reset.1 in
    record {
      answers = q.answers ∙ (λ i. map (λ (e : Event). words_of_answer e.answer) (run (z i) start memory steps).events);
      controller = q.controller;
      state = q.state ∙ (λ i. (run (z i) start memory steps).state);
      memory = q.memory ∙ (λ i. (run (z i) start memory steps).memory);
    }

-- ---- calls with whatever window each is given

pub calls_given : CallsGiven
calls_given words asked left words' h none = record { left = refl; controller = h; state = refl }
calls_given words asked left words'' h (call {words' = words'} {asked = more} {left = later} {memory' = memory'} {answer' = answer'} a answer r seven p rest) =
    let t = p.told seven in
    let o = step_of (state_of_words words) a.start a.memory a.step in
    let e = of_one words a.start a.memory a.step h in
    let state : state_of_words words' ≡ o.state = t.state ∙ (λ i. (e i).state) in
    let memory : memory' ≡ o.memory = t.memory ∙ (λ i. (e i).memory) in
    let first : answer' ≡ words_of_answer o.answer = t.answer ∙ (λ i. words_of_answer (e i).answer) in
    let q = calls_given words' more later words'' (t.still ∙ h) rest in
    let others : later ≡ left_over o.state more = q.left ∙ (λ i. left_over (state i) more) in
    record {
      left = λ i. record { answer = first i; memory = memory i } ∷ others i;
      controller = q.controller;
      state = q.state ∙ (λ i. state_over (state i) more);
    }

pub calls_alike : CallsAlike
calls_alike asked words₁ words₂ left₁ left₂ words₃ words₄ one two same c d =
    let p = calls_given words₁ asked left₁ words₃ one c in
    let q = calls_given words₂ asked left₂ words₄ two d in
    (p.left ∙ (λ i. left_over (same i) asked) ∙ sym q.left, p.state ∙ (λ i. state_over (same i) asked) ∙ sym q.state)
