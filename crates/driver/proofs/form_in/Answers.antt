use mathlib.Core.Path.{◌∙◌}
use lib.ListN.{length}
use borrow.Author.Tests.{ne_eqb}
use Rattle.bank.specs.Words.{mail_in, pci_in, addon_in, is_controller}
use Rattle.refusal.specs.Codes.{form_code}
use Rattle.step.proofs.Answers.{at_words}
use Rattle.driver.specs.Call.{form_of_words}
use Rattle.driver.proofs.form_in.Goals as goal

pub returns-then-words-ne-WORDS : goal.returns-then-words-ne-WORDS
unfolding form_of_words is_controller
returns-then-words-ne-WORDS c = rw (ne_eqb (length c.args.words.now) 38 c.if-words-ne-WORDS.true)

pub returns-then-not-words : goal.returns-then-not-words
unfolding form_of_words is_controller
returns-then-not-words c = rw (c.if-words-ne-WORDS.false, c.if-not-words.true)

pub returns : goal.returns
unfolding form_of_words is_controller
returns c =
    let l = c.args.words.now in
    let b = c.bank_in in
    rw (c.if-words-ne-WORDS.false, c.if-not-words.false) (c.form.ensures (mail_in l) (pci_in l) (addon_in l) ∙ (λ i. form_code (at_words l b.result b.ensures i) c.args.start c.args.count))
