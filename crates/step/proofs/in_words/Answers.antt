use mathlib.Core.Path.{◌≡◌, sym, ap, subst, ◌∙◌}
use mathlib.Core.List.{List}
use Prim.Native.Nat.{ℕ}
use lib.ListN.{length}
use borrow.Author.Tests.{ne_eqb}
use Rattle.machine.specs.Step.{nothing, answered}
use Rattle.bank.specs.Words.{mail_in, pci_in, addon_in, state_of_words}
use Rattle.step.specs.Parts.{outcome_in, settled_outcome, told_step, InWords}
use Rattle.step.proofs.Answers.{kept_same, at_words}
use Rattle.step.proofs.in_words.Goals as goal

pub returns-then-form-ne-DONE : goal.returns-then-form-ne-DONE
unfolding told_step
returns-then-form-ne-DONE c =
    let b = c.bank_in in
    let l = c.in-Some.words.now in
    let form = c.args.form in
    let memory = c.args.memory.now in
    let whole = c.in-Some.ensures.cases in
    let told : c.refused.result ≡ answered (state_of_words l) form nothing = c.refused.ensures (mail_in l) (pci_in l) (addon_in l) ∙ (λ i. answered (at_words l b.result b.ensures i) form nothing) in
    subst (λ (w : List ℕ). InWords w memory c.args.start form c.args.s c.refused.result l memory) whole.same
    (
    record {
      outcome = λ long. (λ i. outcome_in l memory (told i)) ∙ rw (ne_eqb form 0 c.if-form-ne-DONE.true);
      kept = kept_same l c.refused.result;
      refused = λ other. absurd (other (ap length whole.same ∙ whole.long));
    }
    )

pub returns : goal.returns
unfolding settled_outcome
returns c =
    let s = c.settle in
    let k = c.by_kind-a in
    let zero = c.if-form-ne-DONE.false in
    let l = c.in-Some.words.now in
    let whole = c.in-Some.ensures.cases in
    subst (λ (w : List ℕ). InWords w c.args.memory.now c.args.start c.args.form c.args.s k.result s.new.words k.new.memory) whole.same
    (
    record {
      outcome = λ long. (λ i. record { state = s.ensures.state i; memory = k.new.memory; answer = k.result }) ∙ k.ensures.0 ∙ (λ i. told_step (sym zero i) (state_of_words l) c.args.start c.args.memory.now c.args.s);
      kept = record { rights = λ h. s.ensures.rights (k.ensures.1.rights h); refused = λ e g. s.ensures.refused e ∙ k.ensures.1.refused e g };
      refused = λ other. absurd (other (ap length whole.same ∙ whole.long));
    }
    )
