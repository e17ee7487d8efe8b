-- The sentences about bits and bytes.
use Prim.Native.Nat.{ℕ, ◌-◌, ◌≤◌, ◌<◌, min}
use mathlib.Core.Path.{◌≡◌, refl, sym, ap, ◌∙◌}
use mathlib.Core.Bool.{Bool, true, false, ◌&&◌, ◌||◌, and-true, and-false, or-false}
use native.Mathlib.Omega.{arith}
use lib.Dec.{eqb, leb}
use lib.Bits.{bit_and}
use lib.ListN.{length}
use borrow.Author.Tests.{ne_eqb, lt-leb, le-leb, leb-true, leb-false, not-false}
use Rattle.machine.specs.Words.{bit, shown}
use Rattle.machine.specs.State.{State}
use Rattle.machine.specs.Sides.{Side, pci, addon}
use Rattle.machine.specs.Mcsr.{mcsr_kept, fifo_status, mcsr_status, mcsr_read, agcsts_read}
use Rattle.machine.specs.Cycles.{address_kept, count_kept, low_enables}
use Rattle.machine.specs.Interrupts.{interrupts, interrupts_kept, flags, interrupts_held, interrupts_written, line_of, interrupts_read}
use Rattle.machine.specs.Code.{is_out_of_form, faults}
use Rattle.promises.specs.Readings.{ShownBits, MergedBits, WrittenBits, KeptBitsHold, LowEnables, InterruptsWrittenBits, InterruptsReadBits, McsrStatus, McsrReadBits, AgcstsReadBits}
use Rattle.laws.proofs.Tests.{any_none}
use Rattle.laws.proofs.Bits.{bit_or_lem, bit_and_lem, bit_shl, bit_flag, bit_raised, bit_cleared, bit_ones, Only, is_only}
use Rattle.promises.proofs.Bytes.{agree, bit-shown, bit-merged, bit-written, shown_lt}

pub shown_bits : ShownBits
shown_bits = bit-shown

pub merged_bits : MergedBits
merged_bits = bit-merged

pub written_bits : WrittenBits
written_bits = bit-written

pub kept_bits : KeptBitsHold
unfolding bit
kept_bits k h =
    record {
      address = agree 32 (bit address_kept) (λ j. leb 2 j) refl k h;
      count = agree 32 (bit count_kept) (λ j. leb j 25) refl k h;
      intcsr = agree 32 (bit (interrupts_kept pci)) (λ j. leb j 4 || leb 8 j && leb j 12 || eqb j 14 || eqb j 15) refl k h;
      aint = agree 32 (bit (interrupts_kept addon)) (λ j. leb j 4 || leb 8 j && leb j 12 || eqb j 14 || eqb j 15) refl k h;
      pci_flags = agree 32 (bit (flags pci)) (λ j. leb 16 j && leb j 21) refl k h;
      addon_flags = agree 32 (bit (flags addon)) (λ j. leb 16 j && leb j 19 || eqb j 21) refl k h;
      mcsr = agree 32 (bit mcsr_kept) (λ j. leb 12 j && leb j 15 || leb 8 j && leb j 10) refl k h;
    }

pub interrupts_written_bits : InterruptsWrittenBits
unfolding interrupts_written
interrupts_written_bits side k h old new e =
    simp (bit_or_lem, bit-written k h, bit_cleared (bit_and old (flags side)) (shown new e) k (shown_lt new e) h, bit_and_lem, bit-shown k h)

pub low_enables_lem : LowEnables
unfolding low_enables
low_enables_lem count i = bit_ones (min 4 count) i

-- ---- INTCSR, AINT and MCSR as they are read, in form; AGCSTS as it is read

four_free : (n : ℕ) → leb 4 (8 - n) ≡ leb n 4
four_free n = by (leb n 4) refl
  where
    by : (b : Bool) → leb n 4 ≡ b → leb 4 (8 - n) ≡ b
    by true e = let l = leb-true n 4 e in le-leb 4 (8 - n) (omega arith)
    by false e = let l = leb-false n 4 e in lt-leb 4 (8 - n) (omega arith)

module _ (st : State) (form : is_out_of_form st ≡ false) where
  -- a register that holds no bit but those of y
  held-bits : (y x k : ℕ) → Only y x → bit x k ≡ (bit x k && bit y k)
  held-bits y x k e = ap (λ (m : ℕ). bit m k) (sym e) ∙ bit_and_lem x y k

  interrupts-held : (side : Side) → Only (interrupts_held side) (interrupts side st)
  unfolding is_out_of_form
  interrupts-held pci = is_only (interrupts_held pci) st.intcsr (not-false _ (any_none (faults st) form 2))
  interrupts-held addon = is_only (interrupts_held addon) st.aint (not-false _ (any_none (faults st) form 4))

  mcsr-kept : Only mcsr_kept st.mcsr
  unfolding is_out_of_form
  mcsr-kept = is_only mcsr_kept st.mcsr (not-false _ (any_none (faults st) form 3))

  unkept : (k : ℕ) → bit mcsr_kept k ≡ false → bit st.mcsr k ≡ false
  unkept k e = held-bits mcsr_kept st.mcsr k mcsr-kept ∙ rw e (and-false (bit st.mcsr k))

  held-are : (side : Side) (k : ℕ) → k < 32 → bit (interrupts_held side) k ≡ (bit (interrupts_kept side) k || bit (flags side) k)
  unfolding bit
  held-are pci k h = agree 32 (bit (interrupts_held pci)) (λ j. bit (interrupts_kept pci) j || bit (flags pci) j) refl k h
  held-are addon k h = agree 32 (bit (interrupts_held addon)) (λ j. bit (interrupts_kept addon) j || bit (flags addon) j) refl k h

  interrupts-bits : (side : Side) (k : ℕ) → k < 32
      → (let i = interrupts side st in bit (interrupts_read i) k ≡ (bit i k && (bit (interrupts_kept side) k || bit (flags side) k) || line_of i && eqb k 23))
  unfolding interrupts_read
  interrupts-bits side k h =
      let r = interrupts side st in
      bit_raised r (line_of r) 23 k
      ∙ (λ i. held-bits (interrupts_held side) r k (interrupts-held side) i || line_of r && eqb k 23)
      ∙ (λ i. bit r k && held-are side k h i || line_of r && eqb k 23)

  above : (k : ℕ) → 8 ≤ k → bit (mcsr_status st) k ≡ false
  unfolding mcsr_status fifo_status
  above k h =
      simp (
        bit_or_lem,
        bit_flag,
        bit_shl,
        ne_eqb k 7 (λ q. omega arith),
        ne_eqb k 6 (λ q. omega arith),
        ne_eqb k 2 (λ q. omega arith),
        ne_eqb k 1 (λ q. omega arith),
        ne_eqb k 0 (λ q. omega arith),
        ne_eqb (k - 3) 2 (λ q. omega arith),
        ne_eqb (k - 3) 1 (λ q. omega arith),
        ne_eqb (k - 3) 0 (λ q. omega arith),
        and-false,
      )

  status : McsrStatus st
  unfolding mcsr_read mcsr_status fifo_status bit
  status =
      record {
        write_count_zero = simp (bit_or_lem, bit_flag, bit_shl, unkept 7 refl, and-true, and-false, or-false);
        read_count_zero = simp (bit_or_lem, bit_flag, bit_shl, unkept 6 refl, and-true, and-false, or-false);
        addon_empty = simp (bit_or_lem, bit_flag, bit_shl, unkept 5 refl, and-true, and-false, or-false);
        addon_four_held = simp (bit_or_lem, bit_flag, bit_shl, unkept 4 refl, and-true, and-false, or-false);
        addon_full = simp (bit_or_lem, bit_flag, bit_shl, unkept 3 refl, and-true, and-false, or-false);
        pci_empty = simp (bit_or_lem, bit_flag, bit_shl, unkept 2 refl, and-true, and-false, or-false);
        pci_four_free = simp (bit_or_lem, bit_flag, bit_shl, unkept 1 refl, and-true, and-false, or-false) (four_free (length st.from_pci.words));
        pci_full = simp (bit_or_lem, bit_flag, bit_shl, unkept 0 refl, and-true, and-false);
        others = λ k h. bit_or_lem st.mcsr (mcsr_status st) k ∙ rw (above k h) (or-false (bit st.mcsr k)) ∙ held-bits mcsr_kept st.mcsr k mcsr-kept;
      }

pub interrupts_read_bits : InterruptsReadBits
interrupts_read_bits side st form k h = interrupts-bits st form side k h

pub mcsr_read_bits : McsrReadBits
mcsr_read_bits = status

pub agcsts_read_bits : AgcstsReadBits
unfolding agcsts_read fifo_status bit
agcsts_read_bits st =
    record {
      pci_empty = simp (bit_or_lem, bit_flag, bit_shl, and-true, and-false, or-false);
      pci_four_free = simp (bit_or_lem, bit_flag, bit_shl, and-true, and-false, or-false) (four_free (length st.from_pci.words));
      pci_full = simp (bit_or_lem, bit_flag, bit_shl, and-true, and-false, or-false);
      addon_empty = simp (bit_or_lem, bit_flag, bit_shl, and-true, and-false, or-false);
      addon_four_held = simp (bit_or_lem, bit_flag, bit_shl, and-true, and-false, or-false);
      addon_full = simp (bit_or_lem, bit_flag, bit_shl, and-true, and-false, or-false);
      others =
          λ k h.
          simp (
            bit_or_lem,
            bit_flag,
            bit_shl,
            ne_eqb k 2 (λ q. omega arith),
            ne_eqb k 1 (λ q. omega arith),
            ne_eqb k 0 (λ q. omega arith),
            ne_eqb (k - 3) 2 (λ q. omega arith),
            ne_eqb (k - 3) 1 (λ q. omega arith),
            ne_eqb (k - 3) 0 (λ q. omega arith),
            and-false,
          );
    }
