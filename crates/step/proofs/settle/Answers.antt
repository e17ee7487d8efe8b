use mathlib.Core.Path.{refl, sym, ap, ◌∙◌}
use mathlib.Core.Bool.{not, ◌&&◌, true≢false}
use mathlib.Core.List.{[], ◌∷◌}
use lib.Dec.{eqb}
use borrow.Author.Tests.{ne_eqb}
use Rattle.machine.specs.Sides.{pci, addon}
use Rattle.machine.specs.State.{lane}
use Rattle.machine.specs.Rights.{ended, settled}
use Rattle.bank.specs.Bank.{state_in}
use Rattle.bank.specs.Words.{mail_in, pci_in, addon_in, is_right, state_of_words}
use Rattle.bank.proofs.Words.{right_word, right_small, stand, stand-state, stand-rights, stand_numbers}
use Rattle.step.proofs.Laws.{none_stands, either_way}
use Rattle.step.proofs.settle.Goals as goal

pub returns-then-not-b : goal.returns-then-not-b
returns-then-not-b c =
    let b = c.bank_in-b in
    let l = c.args.words.now in
    record {
      state = sym (either_way (eqb c.args.code 0) (settled (state_of_words l)) (state_of_words l) (none_stands l b.result b.ensures (ap not c.if-not-b.true)));
      rights = λ h. h;
      refused = λ e. refl;
    }

pub returns-then-code-ne-DONE : goal.returns-then-code-ne-DONE
returns-then-code-ne-DONE c = record { state = rw (ne_eqb _ 0 c.if-code-ne-DONE.true); rights = λ h. h; refused = λ e. refl }

pub returns : goal.returns
unfolding state_in settled
returns c =
    let b = c.bank_in-b in
    let l = c.args.words.now in
    let m = mail_in l in
    let p = pci_in l in
    let d = addon_in l in
    let read = ap is_right c.from.ensures ∙ right_word _
    ∙ (λ i. (b.ensures i).from_pci.right && not ((c.is_ended.ensures m p d ∙ (λ j. ended pci (lane pci (state_in (b.ensures j) m p d)) (b.ensures j).mcsr (b.ensures j).intcsr)) i)) in
    let write = ap is_right c.from-2.ensures ∙ right_word _
    ∙ (λ i. (b.ensures i).from_addon.right && not ((c.is_ended-2.ensures m p d ∙ (λ j. ended addon (lane addon (state_in (b.ensures j) m p d)) (b.ensures j).mcsr (b.ensures j).intcsr)) i)) in
    let e = stand_numbers ((36, c.from.result) ∷ (37, c.from-2.result) ∷ []) refl (stand l c.told-words) in
    record {
      state = stand-state e ∙ rw (read, write, c.if-code-ne-DONE.false);
      rights = λ h. stand-rights e ∙ rw (c.from.ensures, c.from-2.ensures, right_small (b.result.from_pci.right && not c.is_ended.result), right_small (b.result.from_addon.right && not c.is_ended-2.result));
      refused = λ z. absurd (true≢false (sym (ap (λ n. eqb n 0) c.if-code-ne-DONE.false) ∙ z));
    }
