-- The numbers of kinds against their names.
use Prim.Native.Nat.{ℕ, zero, suc, ◌<◌}
use mathlib.Core.Path.{◌≡◌, refl, sym}
use mathlib.Core.Bool.{false, cond, ◌||◌}
use native.Mathlib.Omega.{arith}
use lib.Dec.{eqb, ltb}
use borrow.Author.Tests.{ne_eqb, lt-ltb}
use Rattle.machine.specs.Sides.{Side, pci, addon, host, card, party_of}
use Rattle.machine.specs.State.{State}
use Rattle.machine.specs.Access.{kind_of, is_read_by, is_write_by, is_on, is_write_on, cycles, is_reset, is_unknown}
use Rattle.machine.specs.BySide.{read_kind, write_kind}
use Rattle.machine.specs.Step.{aborted_reply}

pub record Named (k : ℕ) : Type 0 where
  pub pci_read : is_read_by host (kind_of k) ≡ eqb k 0
  pub pci_write : is_write_by host (kind_of k) ≡ eqb k 1
  pub addon_read : is_read_by card (kind_of k) ≡ eqb k 2
  pub addon_write : is_write_by card (kind_of k) ≡ eqb k 3
  pub write_cycle : cycles addon (kind_of k) ≡ eqb k 4
  pub read_cycle : cycles pci (kind_of k) ≡ eqb k 5
  pub reset : is_reset (kind_of k) ≡ eqb k 6
  pub unknown : is_unknown (kind_of k) ≡ ltb 6 k
  pub on_pci : is_on pci (kind_of k) ≡ (eqb k 0 || eqb k 1)
  pub on_addon : is_on addon (kind_of k) ≡ (eqb k 2 || eqb k 3)
  pub write_on_pci : is_write_on pci (kind_of k) ≡ eqb k 1
  pub write_on_addon : is_write_on addon (kind_of k) ≡ eqb k 3

pub named : (k : ℕ) → Named k
named zero = record { pci_read = refl; pci_write = refl; addon_read = refl; addon_write = refl; write_cycle = refl; read_cycle = refl; reset = refl; unknown = refl; on_pci = refl; on_addon = refl; write_on_pci = refl; write_on_addon = refl }
named (suc zero) = record { pci_read = refl; pci_write = refl; addon_read = refl; addon_write = refl; write_cycle = refl; read_cycle = refl; reset = refl; unknown = refl; on_pci = refl; on_addon = refl; write_on_pci = refl; write_on_addon = refl }
named (suc (suc zero)) = record { pci_read = refl; pci_write = refl; addon_read = refl; addon_write = refl; write_cycle = refl; read_cycle = refl; reset = refl; unknown = refl; on_pci = refl; on_addon = refl; write_on_pci = refl; write_on_addon = refl }
named (suc (suc (suc zero))) = record { pci_read = refl; pci_write = refl; addon_read = refl; addon_write = refl; write_cycle = refl; read_cycle = refl; reset = refl; unknown = refl; on_pci = refl; on_addon = refl; write_on_pci = refl; write_on_addon = refl }
named (suc (suc (suc (suc zero)))) = record { pci_read = refl; pci_write = refl; addon_read = refl; addon_write = refl; write_cycle = refl; read_cycle = refl; reset = refl; unknown = refl; on_pci = refl; on_addon = refl; write_on_pci = refl; write_on_addon = refl }
named (suc (suc (suc (suc (suc zero))))) = record { pci_read = refl; pci_write = refl; addon_read = refl; addon_write = refl; write_cycle = refl; read_cycle = refl; reset = refl; unknown = refl; on_pci = refl; on_addon = refl; write_on_pci = refl; write_on_addon = refl }
named (suc (suc (suc (suc (suc (suc zero)))))) = record { pci_read = refl; pci_write = refl; addon_read = refl; addon_write = refl; write_cycle = refl; read_cycle = refl; reset = refl; unknown = refl; on_pci = refl; on_addon = refl; write_on_pci = refl; write_on_addon = refl }
named (suc (suc (suc (suc (suc (suc (suc n))))))) =
    record {
      pci_read = not_at 0 (omega arith);
      pci_write = not_at 1 (omega arith);
      addon_read = not_at 2 (omega arith);
      addon_write = not_at 3 (omega arith);
      write_cycle = not_at 4 (omega arith);
      read_cycle = not_at 5 (omega arith);
      reset = not_at 6 (omega arith);
      unknown = sym (lt-ltb 6 (suc (suc (suc (suc (suc (suc (suc n))))))) (omega arith));
      on_pci = λ i. not_at 0 (omega arith) i || not_at 1 (omega arith) i;
      on_addon = λ i. not_at 2 (omega arith) i || not_at 3 (omega arith) i;
      write_on_pci = not_at 1 (omega arith);
      write_on_addon = not_at 3 (omega arith);
    }
  where
    not_at : (m : ℕ) → m < 7 → false ≡ eqb (suc (suc (suc (suc (suc (suc (suc n))))))) m
    not_at m h = sym (ne_eqb _ m (λ q. omega arith))

-- the same by the side: the read and the write of its party, a read or a write on it, a write on it, the cycle on its lane
pub read_by : (side : Side) (k : ℕ) → is_read_by (party_of side) (kind_of k) ≡ eqb k (read_kind side)
read_by pci k = (named k).pci_read
read_by addon k = (named k).addon_read

pub write_by : (side : Side) (k : ℕ) → is_write_by (party_of side) (kind_of k) ≡ eqb k (write_kind side)
write_by pci k = (named k).pci_write
write_by addon k = (named k).addon_write

pub on : (side : Side) (k : ℕ) → is_on side (kind_of k) ≡ (eqb k (read_kind side) || eqb k (write_kind side))
on pci k = (named k).on_pci
on addon k = (named k).on_addon

pub write_on : (side : Side) (k : ℕ) → is_write_on side (kind_of k) ≡ eqb k (write_kind side)
write_on pci k = (named k).write_on_pci
write_on addon k = (named k).write_on_addon

-- what code 13 answers besides
pub aborted_reply_lem : (st : State) (k : ℕ)
    → aborted_reply (kind_of k) st ≡ record { address = cond (eqb k 4) st.from_addon.address (cond (eqb k 5) st.from_pci.address 0); value = 0; enables = 0; changed = 0 }
unfolding aborted_reply
aborted_reply_lem st zero = refl
aborted_reply_lem st (suc zero) = refl
aborted_reply_lem st (suc (suc zero)) = refl
aborted_reply_lem st (suc (suc (suc zero))) = refl
aborted_reply_lem st (suc (suc (suc (suc zero)))) = refl
aborted_reply_lem st (suc (suc (suc (suc (suc zero))))) = refl
aborted_reply_lem st (suc (suc (suc (suc (suc (suc zero)))))) = refl
aborted_reply_lem st (suc (suc (suc (suc (suc (suc (suc n))))))) =
    let k = suc (suc (suc (suc (suc (suc (suc n)))))) in rw (ne_eqb k 4 (λ q. omega arith), ne_eqb k 5 (λ q. omega arith))
