-- Words that stand for a controller, and words that stand for none, in a step.
use Prim.Native.Nat.{ℕ, ◌+◌}
use mathlib.Core.Path.{◌≡◌, refl, sym, ap, ◌∙◌}
use mathlib.Core.Bool.{Bool, true, false, cond}
use mathlib.Core.List.{List, ◌++◌, append-nil}
use native.Mathlib.Omega.{arith}
use native.Mathlib.Decide.{ℕ_discrete}
use lib.Dec.{eqb}
use lib.ListN.{length, drop_of_length-le}
use lib.Seq.{sets, sets-eq}
use borrow.Author.Tests.{eqb-true}
use Rattle.laws.proofs.Tests.{and_left, and_right}
use Rattle.machine.specs.Step.{nothing, answered, step_of}
use Rattle.machine.specs.declared.Step.{Step}
use Rattle.machine.specs.declared.Answer.{Answer}
use Rattle.bank.specs.Words.{state_of_words, has_rights, is_controller}
use Rattle.refusal.specs.Codes.{form_code}
use Rattle.step.specs.Parts.{outcome_in, told_step, InWords}
use Rattle.step.proofs.Codes.{told_as}
use Rattle.driver.specs.Call.{no_controller, step_of_words, form_of_words}

-- stored one by one, as many as there are places
pub stored_all : (l vs : List ℕ) → length l ≡ length vs → sets l 0 vs ≡ vs
stored_all l vs e = sets-eq vs l 0 (omega arith) ∙ ap (λ (t : List ℕ). vs ++ t) (drop_of_length-le l {i = 0 + length vs} (omega arith)) ∙ append-nil vs

pub of_one : (words : List ℕ) (start : ℕ) (memory : List ℕ) (s : Step) → is_controller words ≡ true → step_of_words words start memory s ≡ step_of (state_of_words words) start memory s
unfolding step_of_words
of_one words start memory s e = rw e

pub of_none : (words : List ℕ) (start : ℕ) (memory : List ℕ) (s : Step) → is_controller words ≡ false → step_of_words words start memory s ≡ no_controller words memory
unfolding step_of_words
of_none words start memory s e = rw e

one_long : (words : List ℕ) → is_controller words ≡ true → length words ≡ 38
unfolding is_controller
one_long words e = eqb-true (length words) 38 (and_left (eqb (length words) 38) (has_rights words) e)

one_rights : (words : List ℕ) → is_controller words ≡ true → has_rights words ≡ true
unfolding is_controller
one_rights words e = and_right (eqb (length words) 38) (has_rights words) e

-- words of as many, with rights
still_one : (words : List ℕ) → length words ≡ 38 → has_rights words ≡ true → is_controller words ≡ true
unfolding is_controller
still_one words long h = rw (long, h)

-- what a step on words leaves, told their code of form
pub record Left (words : List ℕ) (start : ℕ) (memory : List ℕ) (s : Step) (a : Answer) (words' memory' : List ℕ) : Type 0 where
  pub outcome : outcome_in words' memory' a ≡ step_of_words words start memory s
  pub still : is_controller words' ≡ is_controller words

module _ (words : List ℕ) (start : ℕ) (memory : List ℕ) (s : Step) (a : Answer) (words' memory' : List ℕ) (long : length words' ≡ length words) where
  by_one : is_controller words ≡ true → InWords words memory start (form_code (state_of_words words) start (length memory)) s a words' memory' → Left words start memory s a words' memory'
  by_one one p =
      record {
        outcome = told_as _ (state_of_words words) start memory s _ refl (p.outcome (one_long words one)) ∙ sym (of_one words start memory s one);
        still = still_one words' (long ∙ one_long words one) (p.kept.rights (one_rights words one)) ∙ sym one;
      }

  by_none : is_controller words ≡ false → InWords words memory start 1 s a words' memory' → Left words start memory s a words' memory'
  unfolding told_step answered
  by_none other p = at (ℕ_discrete (length words) 38)
    where
      left : a ≡ answered (state_of_words words) 1 nothing → words' ≡ words → memory' ≡ memory → Left words start memory s a words' memory'
      left e w m = record { outcome = (λ i. outcome_in (w i) (m i) (e i)) ∙ sym (of_none words start memory s other); still = ap is_controller w }

      at : Dec (length words ≡ 38) → Left words start memory s a words' memory'
      at (yes h) =
          let o = p.outcome h in
          left (λ i. (o i).answer) (p.kept.refused (λ i. eqb (o i).answer.code 0) (λ i. eqb (o i).answer.code 13)) (λ i. (o i).memory)
      at (no h) = let r = p.refused h in left r.0 r.1.0 r.1.1

  pub left_by_lem : InWords words memory start (form_of_words words start (length memory)) s a words' memory' → Left words start memory s a words' memory'
  unfolding form_of_words
  left_by_lem p = by (is_controller words) refl p
    where
      by : (one : Bool) → is_controller words ≡ one → InWords words memory start (cond one (form_code (state_of_words words) start (length memory)) 1) s a words' memory' → Left words start memory s a words' memory'
      by true e q = by_one e q
      by false e q = by_none e q
