-- A step and its answer: the kinds of step, by name, and which access a step is.
use Rattle.std.specs.Prelude.{ℕ, zero, suc, Bool, true, false, ◌&&◌, eqb}
use Rattle.machine.specs.Sides.{Side, pci, addon, same_side, Party, host, card, side_of, same_party}
use Rattle.machine.specs.declared.Step.{Step}

-- A cycle is named by the lane that it works on. Of a cycle or a reset only the kind counts: no rule of theirs looks at the other three numbers.
pub data Kind : Type 0 where
  reading writing : Party → Kind
  cycle : Side → Kind
  chip_reset unknown : Kind

-- the host reads (0) and writes (1), the card reads (2) and writes (3); a write cycle (4), a read cycle (5), a chip reset (6); no kind is above
abbrev pub kind_of : ℕ → Kind
kind_of zero = reading host
kind_of (suc zero) = writing host
kind_of (suc (suc zero)) = reading card
kind_of (suc (suc (suc zero))) = writing card
kind_of (suc (suc (suc (suc zero)))) = cycle addon
kind_of (suc (suc (suc (suc (suc zero))))) = cycle pci
kind_of (suc (suc (suc (suc (suc (suc zero)))))) = chip_reset
kind_of (suc (suc (suc (suc (suc (suc (suc n))))))) = unknown

-- A step with its kind by name: what every rule goes by.
pub record Access : Type 0 where
  pub kind : Kind
  pub offset : ℕ
  pub enables : ℕ
  pub value : ℕ

abbrev pub access_of : Step → Access
access_of s = record { kind = kind_of s.kind; offset = s.offset; enables = s.enables; value = s.value }

abbrev pub is_read_by : Party → Kind → Bool
is_read_by party (reading by) = same_party party by
is_read_by party (writing by) = false
is_read_by party (cycle side) = false
is_read_by party chip_reset = false
is_read_by party unknown = false

abbrev pub is_write_by : Party → Kind → Bool
is_write_by party (reading by) = false
is_write_by party (writing by) = same_party party by
is_write_by party (cycle side) = false
is_write_by party chip_reset = false
is_write_by party unknown = false

-- a read or a write, by any party
abbrev pub is_access : Kind → Bool
is_access (reading by) = true
is_access (writing by) = true
is_access (cycle side) = false
is_access chip_reset = false
is_access unknown = false

-- a read or a write on a side's bus, by whichever party; a write of these
abbrev pub is_on : Side → Kind → Bool
is_on side (reading by) = same_side side (side_of by)
is_on side (writing by) = same_side side (side_of by)
is_on side (cycle of) = false
is_on side chip_reset = false
is_on side unknown = false

abbrev pub is_write_on : Side → Kind → Bool
is_write_on side (reading by) = false
is_write_on side (writing by) = same_side side (side_of by)
is_write_on side (cycle of) = false
is_write_on side chip_reset = false
is_write_on side unknown = false

-- the cycle that works on a side's lane: a write cycle on the Add-On's, a read cycle on PCI's
abbrev pub cycles : Side → Kind → Bool
cycles side (reading by) = false
cycles side (writing by) = false
cycles side (cycle of) = same_side side of
cycles side chip_reset = false
cycles side unknown = false

abbrev pub is_reset : Kind → Bool
is_reset (reading by) = false
is_reset (writing by) = false
is_reset (cycle side) = false
is_reset chip_reset = true
is_reset unknown = false

abbrev pub is_unknown : Kind → Bool
is_unknown (reading by) = false
is_unknown (writing by) = false
is_unknown (cycle side) = false
is_unknown chip_reset = false
is_unknown unknown = true

-- a party reads, or writes, the register at an offset
abbrev pub reads : Party → ℕ → Access → Bool
reads party at x = is_read_by party x.kind && eqb x.offset at

abbrev pub writes : Party → ℕ → Access → Bool
writes party at x = is_write_by party x.kind && eqb x.offset at
