use mathlib.Core.Path.{◌≡◌, sym, ◌∙◌}
use mathlib.Core.Bool.{true, false}
use native.Mathlib.Omega.{arith}
use borrow.Author.Tests.{ne_eqb}
use Rattle.machine.specs.Offsets.{is_mailbox}
use Rattle.machine.specs.Step.{register}
use Rattle.bank.specs.Bank.{state_in}
use Rattle.bank.specs.Words.{mail_in, pci_in, addon_in}
use Rattle.step.proofs.Stored.{interrupts_word}
use Rattle.step.proofs.Answers.{at_words, mail_word_in}
use Rattle.step.proofs.registers.register.Goals as goal

pub returns-then-is_mailbox : goal.returns-then-is_mailbox
unfolding state_in register
returns-then-is_mailbox g c =
    let box : is_mailbox c.args.offset ≡ true = sym c.is_mailbox.ensures ∙ c.if-is_mailbox.true in
    simp (box, c.mail_word.ensures, mail_word_in c.args.words.now c.args.offset box)

pub returns-in-36 : goal.returns-in-36
unfolding state_in register
returns-in-36 g c = rw (c.in-36.is, c.bank_in-b.ensures)

pub returns-in-40 : goal.returns-in-40
unfolding state_in register
returns-in-40 g c = rw (c.in-40.is, c.shown.ensures, c.bank_in-b.ensures)

pub returns-in-44 : goal.returns-in-44
unfolding state_in register
returns-in-44 g c = rw (c.in-44.is, c.bank_in-b.ensures)

pub returns-in-48 : goal.returns-in-48
unfolding state_in register
returns-in-48 g c = rw (c.in-48.is, c.shown-in-48.ensures, c.bank_in-b.ensures)

pub returns-in-52 : goal.returns-in-52
unfolding state_in register
returns-in-52 g c = rw (c.in-52.is, c.bank_in-b.ensures)

pub returns-in-56 : goal.returns-in-56
unfolding register
returns-in-56 g c = rw (c.in-56.is, c.read.ensures, c.INTERRUPTS_AT.ensures ∙ g.met.S.Places.interrupts_at_is, interrupts_word c.args.words.now g.S.Side.side)

pub returns-in_default : goal.returns-in_default
unfolding register
returns-in_default g c =
    let none : is_mailbox c.args.offset ≡ false = sym c.is_mailbox.ensures ∙ c.if-is_mailbox.false in
    let b = c.bank_in-b in
    let l = c.args.words.now in
    rw (c.control.ensures (mail_in l) (pci_in l) (addon_in l), at_words l b.result b.ensures)
    (simp (none, ne_eqb c.args.offset 0x24 (λ e. omega (arith, e)), ne_eqb c.args.offset 0x28 (λ e. omega (arith, e)), ne_eqb c.args.offset 0x2C (λ e. omega (arith, e)), ne_eqb c.args.offset 0x30 (λ e. omega (arith, e)), ne_eqb c.args.offset 0x34 (λ e. omega (arith, e)), ne_eqb c.args.offset 0x38 (λ e. omega (arith, e))))
