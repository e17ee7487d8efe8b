-- Two results of a step that meet its contract are the same.
use Prim.Native.Nat.{ℕ}
use mathlib.Core.Path.{◌≡◌, sym, ap, ◌∙◌}
use mathlib.Core.Bool.{false}
use mathlib.Core.List.{List}
use native.Mathlib.Decide.{ℕ_discrete}
use lib.Dec.{eqb}
use lib.ListN.{length}
use Rattle.machine.specs.declared.Step.{Step}
use Rattle.machine.specs.declared.Answer.{Answer}
use Rattle.bank.specs.Words.{state_of_words}
use Rattle.step.specs.Outcome.{outcome_of}
use Rattle.step.specs.Parts.{outcome_in, InWords}
use Rattle.step.specs.Unique.{StepUnique, SameInWords, InWordsUnique}

pub step_unique : StepUnique
step_unique c start memory s r q after also p o =
    let same : outcome_of r after ≡ outcome_of q also = p.outcome ∙ sym o.outcome in
    record {
      state = λ i. (same i).state;
      answer = λ i. (same i).answer;
      memory = λ i. (same i).memory;
      refused = λ e f. p.refused e f ∙ sym (o.refused (sym (λ i. eqb (same i).answer.code 0) ∙ e) (sym (λ i. eqb (same i).answer.code 13) ∙ f));
    }

module _ (words memory : List ℕ) (start form : ℕ) (s : Step) (a b : Answer) (words₁ words₂ memory₁ memory₂ : List ℕ) (p : InWords words memory start form s a words₁ memory₁) (o : InWords words memory start form s b words₂ memory₂) where
  -- by any code but 0 and 13 both leave the words
  both-leave : a ≡ b → eqb a.code 0 ≡ false → eqb a.code 13 ≡ false → words₁ ≡ words₂
  both-leave e zero abort = p.kept.refused zero abort ∙ sym (o.kept.refused (sym (λ i. eqb (e i).code 0) ∙ zero) (sym (λ i. eqb (e i).code 13) ∙ abort))

  same_by : Dec (length words ≡ 38) → SameInWords a b words₁ words₂ memory₁ memory₂
  same_by (yes long) =
      let same : outcome_in words₁ memory₁ a ≡ outcome_in words₂ memory₂ b = p.outcome long ∙ sym (o.outcome long) in
      record { answer = λ i. (same i).answer; memory = λ i. (same i).memory; state = λ i. (same i).state; refused = both-leave (λ i. (same i).answer) }
  same_by (no other) =
      let t = p.refused other in
      let u = o.refused other in
      record { answer = t.0 ∙ sym u.0; memory = t.1.1 ∙ sym u.1.1; state = ap state_of_words (t.1.0 ∙ sym u.1.0); refused = both-leave (t.0 ∙ sym u.0) }

pub in_words_unique : InWordsUnique
in_words_unique words memory start form s a b words₁ words₂ memory₁ memory₂ p o = same_by words memory start form s a b words₁ words₂ memory₁ memory₂ p o (ℕ_discrete (length words) 38)
