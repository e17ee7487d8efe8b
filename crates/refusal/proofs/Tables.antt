-- What the tests of the code need of the machine's.
use Prim.Native.Nat.{ℕ}
use mathlib.Core.Path.{◌≡◌, refl}
use mathlib.Core.Bool.{true, false, and-false, false≢true, true≢false}
use borrow.Author.Tests.{ne_eqb}
use Rattle.machine.specs.Sides.{pci, addon}
use Rattle.machine.specs.State.{State}
use Rattle.machine.specs.Access.{Access, Kind, reading, writing, cycle, chip_reset, unknown, is_access}
use Rattle.machine.specs.Code.{is_unknown_offset, has_bad_enables, is_part_fifo_access, is_read_only_write, is_full_or_empty, is_transfer_off, is_count_zero, is_abort_standing, is_not_ready, is_no_memory, cycle_tests, first_of}
use Rattle.refusal.specs.Codes.{access_code}

-- the codes of reads and writes apply to no other kind
pub other_kind : (st : State) (x : Access) → is_access x.kind ≡ false → access_code st x ≡ 0
unfolding is_unknown_offset has_bad_enables is_part_fifo_access is_read_only_write is_full_or_empty
other_kind st x h = none x.kind h
  where
    none : (k : Kind) → is_access k ≡ false → access_code st (record { kind = k; offset = x.offset; enables = x.enables; value = x.value }) ≡ 0
    none (reading by) h = absurd (true≢false h)
    none (writing by) h = absurd (true≢false h)
    none (cycle pci) h = refl
    none (cycle addon) h = refl
    none chip_reset h = refl
    none unknown h = refl

-- no code of cycles applies to reads and writes
pub no_cycle : (st : State) (start words : ℕ) (x : Access) → is_access x.kind ≡ true → first_of (cycle_tests st start words x) ≡ 0
unfolding is_transfer_off is_count_zero is_abort_standing is_not_ready is_no_memory
no_cycle st start words x h = none x.kind h
  where
    none : (k : Kind) → is_access k ≡ true → first_of (cycle_tests st start words (record { kind = k; offset = x.offset; enables = x.enables; value = x.value })) ≡ 0
    none (reading by) h = refl
    none (writing by) h = refl
    none (cycle side) h = absurd (false≢true h)
    none chip_reset h = absurd (false≢true h)
    none unknown h = absurd (false≢true h)

-- the FIFO port is not read-only, and at no other offset is a FIFO full or empty
pub at_port_lem : (x : Access) → x.offset ≡ 0x20 → is_read_only_write x ≡ false
unfolding is_read_only_write
at_port_lem x h = rw h (simp and-false)

pub elsewhere : (st : State) (x : Access) → (x.offset ≡ 0x20 → ⊥) → is_full_or_empty st x ≡ false
unfolding is_full_or_empty
elsewhere st x h = simp (ne_eqb _ _ h, and-false)
