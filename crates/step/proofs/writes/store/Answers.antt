use mathlib.Core.Path.{refl, sym, ◌∙◌}
use lib.ListN.{set}
use Rattle.machine.specs.Sides.{pci, addon}
use Rattle.machine.specs.State.{State}
use Rattle.machine.specs.Access.{access_of}
use Rattle.bank.specs.Words.{state_of_words}
use Rattle.step.specs.Parts.{Stored, lane_changed, registers_written, interrupts_stored, controlled}
use Rattle.step.proofs.Laws.{interrupts-state, control-state, transfer-state}
use Rattle.step.proofs.Stored.{interrupted}
use Rattle.step.proofs.Answers.{both, coded, access-refused, access-done, store-done}
use Rattle.step.proofs.writes.store.Goals as goal

pub returns-in-Err : goal.returns-in-Err
returns-in-Err g c =
    let a = c.args in
    let k = c.in-Err in
    access-refused a.words.now a.s c.bank_in-b.result c.bank_in-b.ensures k.r k.ensures.goes_on k.ensures.code c.from.result c.from.ensures c.refused.result c.refused.ensures

pub returns-then-s-eq-INTERRUPTS : goal.returns-then-s-eq-INTERRUPTS
returns-then-s-eq-INTERRUPTS g c =
    let l = c.args.words.now in
    let s = c.args.s in
    let x = access_of s in
    let side = g.S.Side.side in
    let kind = c.requires.0 in
    let b = c.bank_in-b in
    let go = c.in-Ok.ensures in
    let place = g.met.S.Places.interrupts_at_is in
    let at = c.if-s-eq-INTERRUPTS.true in
    let put : Stored (interrupts_stored side x) l (set l c.INTERRUPTS_AT-then-s-eq-INTERRUPTS.result c.written.result) = rw (c.written.ensures, at, c.INTERRUPTS_AT.ensures ∙ place, c.INTERRUPTS_AT-then-s-eq-INTERRUPTS.ensures ∙ place) (interrupted l c.told-words side x) in
    access-done l s b.result 0 b.ensures (go.goes_on, go.code) c.done.result _ refl
    (store-done l _ s c.done.result side kind c.requires.1.0 (interrupts_stored side x) put (interrupts-state (state_of_words l) s side kind at) c.done.ensures)

pub returns-then-s-eq-CONTROL : goal.returns-then-s-eq-CONTROL
returns-then-s-eq-CONTROL g c =
    let l = c.args.words.now in
    let s = c.args.s in
    let x = access_of s in
    let side = g.S.Side.side in
    let kind = c.requires.0 in
    let b = c.bank_in-b in
    let go = c.in-Ok.ensures in
    let d = c.done-then-s-eq-CONTROL in
    access-done l s b.result 0 b.ensures (go.goes_on, go.code) d.result _ refl
    (store-done l _ s d.result side kind c.requires.1.0 (controlled x) c.control.ensures (control-state (state_of_words l) s side kind c.if-s-eq-CONTROL.true) d.ensures)

pub returns : goal.returns
returns g c =
    let l = c.args.words.now in
    let s = c.args.s in
    let x = access_of s in
    let side = g.S.Side.side in
    let kind = c.requires.0 in
    let b = c.bank_in-b in
    let go = c.in-Ok.ensures in
    let d = c.done-2 in
    let to_pci = lane_changed pci (registers_written pci x) in
    let to_addon = lane_changed addon (registers_written addon x) in
    access-done l s b.result 0 b.ensures (go.goes_on, go.code) d.result _ refl
    (store-done l _ s d.result side kind c.requires.1.0 (λ (st : State). to_addon (to_pci st)) (both to_pci to_addon l c.transfer.new.words c.transfer-2.new.words c.transfer.ensures c.transfer-2.ensures)
    (transfer-state (state_of_words l) s side kind c.requires.1.0 c.requires.1.1 c.if-s-eq-INTERRUPTS.false c.if-s-eq-CONTROL.false (sym (coded l s b.result 0 b.ensures (go.goes_on, go.code)))) d.ensures)
