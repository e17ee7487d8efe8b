use Prim.Native.Nat.{ℕ, ◌%◌}
use mathlib.Core.Path.{◌≡◌, sym, ◌∙◌}
use mathlib.Core.Bool.{Bool, not, ◌&&◌, ◌||◌}
use mathlib.Core.List.{List}
use lib.Dec.{eqb, ltb}
use lib.ListN.{length}
use Rattle.machine.specs.Words.{only}
use Rattle.machine.specs.Sides.{pci, addon}
use Rattle.machine.specs.State.{State, lane}
use Rattle.machine.specs.Interrupts.{interrupts_held}
use Rattle.machine.specs.Mcsr.{mcsr_kept}
use Rattle.machine.specs.Rights.{ended}
use Rattle.machine.specs.Code.{is_out_of_form}
use Rattle.fifo.specs.Ring.{from}
use Rattle.fifo.proofs.Ring.{length_from}
use Rattle.bank.specs.declared.Bank.{Bank}
use Rattle.bank.specs.Bank.{state_in}
use Rattle.refusal.proofs.Faults.{in_pairs}
use Rattle.refusal.proofs.is_out_of_form.Goals as goal

module _ (b : Bank) where
  abbrev lanes : Bool
  lanes = ltb 8 b.from_pci.fill.0 || ltb 8 b.from_addon.fill.0 || ((not (eqb (b.from_pci.address % 4) 0) || not (eqb (b.from_addon.address % 4) 0)) || (ltb 0x03FF_FFFF b.from_pci.count.0 || ltb 0x03FF_FFFF b.from_addon.count.0))

  abbrev registers : Bool
  registers = not (only (interrupts_held pci) b.intcsr) || not (only mcsr_kept b.mcsr) || not (only (interrupts_held addon) b.aint)

  -- what the code looks at first, and the rights behind it
  abbrev rights : State → Bool
  rights st = b.from_pci.right && ended pci (lane pci st) b.mcsr b.intcsr || b.from_addon.right && ended addon (lane addon st) b.mcsr b.intcsr

  by_lanes : (mail pcis addons : List ℕ) → (lanes || registers || rights (state_in b mail pcis addons)) ≡ is_out_of_form (state_in b mail pcis addons)
  unfolding state_in is_out_of_form
  by_lanes mail pcis addons =
      let p = b.from_pci in
      let a = b.from_addon in
      let st = state_in b mail pcis addons in
      let odd = not (eqb (p.address % 4) 0) || not (eqb (a.address % 4) 0) in
      let high = ltb 0x03FF_FFFF p.count.0 || ltb 0x03FF_FFFF a.count.0 in
      (λ i. (ltb 8 (sym (length_from 8 0 pcis p.head p.fill.0) i) || ltb 8 (sym (length_from 8 0 addons a.head a.fill.0) i) || (odd || high)) || registers || rights st)
      ∙ sym (in_pairs (ltb 8 (length (from 8 0 pcis p.head p.fill.0))) (not (eqb (p.address % 4) 0)) (ltb 0x03FF_FFFF p.count.0) (p.right && ended pci (lane pci st) b.mcsr b.intcsr)
      (ltb 8 (length (from 8 0 addons a.head a.fill.0))) (not (eqb (a.address % 4) 0)) (ltb 0x03FF_FFFF a.count.0) (a.right && ended addon (lane addon st) b.mcsr b.intcsr)
      (not (only (interrupts_held pci) b.intcsr)) (not (only mcsr_kept b.mcsr)) (not (only (interrupts_held addon) b.aint)))

pub returns-then-are_lanes_out_of_form-registers : goal.returns-then-are_lanes_out_of_form-registers
returns-then-are_lanes_out_of_form-registers c = λ mail pcis addons.
    let b = c.args.b in
    (λ i. sym c.if-are_lanes_out_of_form-registers.true i || rights b (state_in b mail pcis addons))
    ∙ (λ i. c.are_lanes_out_of_form.ensures i || (not (c.is_only.ensures i) || not (c.is_only-2.ensures i) || not (c.is_only-3.ensures i)) || rights b (state_in b mail pcis addons))
    ∙ by_lanes b mail pcis addons

pub returns : goal.returns
returns c = λ mail pcis addons.
    let b = c.args.b in
    c.is_right_wrong.ensures mail pcis addons
    ∙ (λ i. sym c.if-are_lanes_out_of_form-registers.false i || rights b (state_in b mail pcis addons))
    ∙ (λ i. c.are_lanes_out_of_form.ensures i || (not (c.is_only.ensures i) || not (c.is_only-2.ensures i) || not (c.is_only-3.ensures i)) || rights b (state_in b mail pcis addons))
    ∙ by_lanes b mail pcis addons
