-- What the ends of a right need of numbers, and of a bank's lane.
use Prim.Native.Nat.{ℕ, zero, suc}
use mathlib.Core.Path.{◌≡◌, refl}
use mathlib.Core.Bool.{not}
use mathlib.Core.List.{List}
use native.Mathlib.Omega.{arith}
use lib.Dec.{eqb, leb, eqb-suc-zero}
use lib.ListN.{length}
use borrow.Author.Tests.{le-leb}
use Rattle.machine.specs.Sides.{Side, pci, addon}
use Rattle.machine.specs.State.{lane}
use Rattle.fifo.proofs.Ring.{length_from}
use Rattle.bank.specs.Bank.{state_in, lane_in}
use Rattle.bank.specs.declared.Bank.{Bank}

-- less than one is none
pub none_lem : (n : ℕ) → not (leb 1 n) ≡ eqb n 0
none_lem zero = refl
none_lem (suc n) = rw (le-leb 1 (suc n) (omega arith), eqb-suc-zero n)

-- of the state that a bank stands for, a lane's words are as many as its fill says, and its count and its right are the bank's
pub as_filled : (side : Side) (b : Bank) (mail pcis addons : List ℕ) → length (lane side (state_in b mail pcis addons)).words ≡ (lane_in side b).fill.0
unfolding state_in
as_filled pci b mail pcis addons = length_from 8 0 pcis b.from_pci.head b.from_pci.fill.0
as_filled addon b mail pcis addons = length_from 8 0 addons b.from_addon.head b.from_addon.fill.0

pub as_counted : (side : Side) (b : Bank) (mail pcis addons : List ℕ) → (lane side (state_in b mail pcis addons)).count ≡ (lane_in side b).count.0
unfolding state_in
as_counted pci b mail pcis addons = refl
as_counted addon b mail pcis addons = refl

pub as_righted : (side : Side) (b : Bank) (mail pcis addons : List ℕ) → (lane side (state_in b mail pcis addons)).right ≡ (lane_in side b).right
unfolding state_in
as_righted pci b mail pcis addons = refl
as_righted addon b mail pcis addons = refl
