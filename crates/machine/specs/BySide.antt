-- What a side's numbers are, where no other rule says so: the kinds of its party's read and write, what four counts, and
-- which registers its bus has.
use Rattle.std.specs.Prelude.{ℕ, Bool, true, false}
use Rattle.machine.specs.Sides.{Side, pci, addon}

abbrev pub read_kind : Side → ℕ
read_kind pci = 0
read_kind addon = 2

abbrev pub write_kind : Side → ℕ
write_kind pci = 1
write_kind addon = 3

-- of the FIFO from PCI free places count, of the one from the Add-On words (`Fifos.amount`)
abbrev pub counts_room : Side → Bool
counts_room pci = true
counts_room addon = false

-- PCI has the registers of addresses and counts, the Add-On has not (`Offsets.in_table`)
abbrev pub has_transfers : Side → Bool
has_transfers pci = true
has_transfers addon = false

-- PCI owns the outgoing mailboxes, the Add-On the incoming ones (`Offsets.writer`)
abbrev pub owns_outgoing : Side → Bool
owns_outgoing pci = true
owns_outgoing addon = false
