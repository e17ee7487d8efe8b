-- The code of a cycle: the first of its five tests that applies.
use Prim.Native.Nat.{ℕ}
use mathlib.Core.Path.{◌≡◌, refl}
use mathlib.Core.Bool.{cond, not, or-false}
use mathlib.Core.List.{List}
use lib.Dec.{eqb}
use Rattle.machine.specs.Words.{bit}
use Rattle.machine.specs.Sides.{Side, pci, addon}
use Rattle.machine.specs.Window.{inside}
use Rattle.machine.specs.Mcsr.{enable_bit}
use Rattle.machine.specs.Cycles.{is_ready}
use Rattle.machine.specs.Interrupts.{abort_in}
use Rattle.machine.specs.Code.{is_transfer_off, is_count_zero, is_abort_standing, is_not_ready, is_no_memory}
use Rattle.bank.specs.Bank.{state_in, lane_in}
use Rattle.bank.specs.declared.Bank.{Bank}
use Rattle.refusal.specs.Codes.{cycle_code}

pub cycle_code_is : (side : Side) (b : Bank) (mail pcis addons : List ℕ) (start words : ℕ)
    → cycle_code side (state_in b mail pcis addons) start words ≡ (let l = lane_in side b in
    cond (not (bit b.mcsr (enable_bit side))) 9
    (cond (eqb l.count.0 0) 10
    (cond (abort_in b.intcsr) 11
    (cond (not (is_ready side (state_in b mail pcis addons))) 12
    (cond (not (inside start words l.address)) 13 0)))))
unfolding state_in is_transfer_off is_count_zero is_abort_standing is_not_ready is_no_memory
cycle_code_is pci b mail pcis addons start words = simp or-false
cycle_code_is addon b mail pcis addons start words = refl
