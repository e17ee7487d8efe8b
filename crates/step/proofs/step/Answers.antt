use mathlib.Core.Path.{◌≡◌, refl, sym, ◌∙◌}
use mathlib.Core.Bool.{not}
use mathlib.Core.List.{List}
use Prim.Native.Nat.{ℕ}
use lib.Dec.{eqb}
use lib.ListN.{length}
use borrow.Author.Tests.{not-true}
use Rattle.machine.specs.Step.{step_of}
use Rattle.laws.proofs.Tests.{and_left, and_right}
use Rattle.laws.proofs.Refused.{refused}
use Rattle.controller.specs.Controller.{state_of}
use Rattle.machine.specs.declared.Step.{Step}
use Rattle.machine.specs.declared.Answer.{Answer}
use Rattle.controller.specs.declared.Controller.{Controller}
use Rattle.bank.specs.declared.Bank.{Bank}
use Rattle.bank.specs.Bank.{state_in}
use Rattle.bank.specs.Words.{controller_words, mail_in, pci_in, addon_in, bank_in, state_of_words}
use Rattle.refusal.specs.Codes.{form_code}
use Rattle.step.specs.Parts.{outcome_in, InWords}
use Rattle.step.proofs.Codes.{told_as, neither_code}
use Rattle.step.proofs.Answers.{at_words}
use Rattle.step.proofs.step.Goals as goal

-- what `in_words` leaves is the machine's step on the controller
ran : (l : List ℕ) (c : Controller) (b : Bank) (form start : ℕ) (memory after left : List ℕ) (s : Step) (a : Answer)
    → length l ≡ controller_words → state_of_words l ≡ state_of c → b ≡ bank_in l
    → ((mail places behind : List ℕ) → form ≡ form_code (state_in b mail places behind) start (length memory))
    → InWords l memory start form s a after left
    → outcome_in after left a ≡ step_of (state_of c) start memory s
ran l c b form start memory after left s a long stands numbers is kept =
    let coded = is (mail_in l) (pci_in l) (addon_in l) ∙ (λ i. form_code (at_words l b numbers i) start (length memory)) in
    told_as form (state_of_words l) start memory s _ coded (kept.outcome long)
    ∙ (λ i. step_of (stands i) start memory s)

pub returns-then-answer-from : goal.returns-then-answer-from
returns-then-answer-from c =
    let e = ran c.words_of-words.result c.args.c c.bank_in-b.result c.code-form.result c.args.start c.args.memory.now c.in_words-answer.new.words c.in_words-answer.new.memory c.args.s c.in_words-answer.result c.words_of-words.ensures.0 c.words_of-words.ensures.1.1 c.bank_in-b.ensures (λ mail places behind. c.code-form.ensures ∙ c.form.ensures mail places behind) c.in_words-answer.ensures in
    let code = c.in_words-answer.result.code in
    let zero = not-true (eqb code 0) (and_left (not (eqb code 0)) (not (eqb code 13)) (rw c.from.ensures at c.if-answer-from.true)) in
    let abort = not-true (eqb code 13) (and_right (not (eqb code 0)) (not (eqb code 13)) (rw c.from.ensures at c.if-answer-from.true)) in
    let q = refused (state_of c.args.c) c.args.start c.args.memory.now c.args.s (sym (λ i. eqb (e i).answer.code 0) ∙ zero) (sym (λ i. eqb (e i).answer.code 13) ∙ abort) in
    record {
      outcome = λ i. record { state = sym (λ j. (q j).state) i; memory = (e i).memory; answer = (e i).answer };
      refused = λ y n. refl;
    }

pub returns : goal.returns
returns c =
    record {
      outcome = (λ i. record { state = c.controller_of-controller.ensures i; memory = c.in_words-answer.new.memory; answer = c.in_words-answer.result }) ∙ ran c.words_of-words.result c.args.c c.bank_in-b.result c.code-form.result c.args.start c.args.memory.now c.in_words-answer.new.words c.in_words-answer.new.memory c.args.s c.in_words-answer.result c.words_of-words.ensures.0 c.words_of-words.ensures.1.1 c.bank_in-b.ensures (λ mail places behind. c.code-form.ensures ∙ c.form.ensures mail places behind) c.in_words-answer.ensures;
      refused = λ zero abort. absurd (neither_code _ _ (rw c.from.ensures at c.if-answer-from.false) zero abort);
    }
