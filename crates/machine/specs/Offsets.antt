-- Register offsets: the tables of both sides.
use Rattle.std.specs.Prelude.{ℕ, ◌/◌, ◌%◌, Bool, cond, not, ◌&&◌, ◌||◌, eqb, ltb}
use Rattle.machine.specs.Sides.{Side, pci, addon, same_side, Party, host, card, side_of}

-- eight mailboxes, four bytes apart from 00 on: PCI's four outgoing ones, then its four incoming ones; both sides have them at the same offsets
abbrev pub is_mailbox : ℕ → Bool
is_mailbox offset = ltb offset 0x20 && eqb (offset % 4) 0

-- the place of a mailbox among the eight words
abbrev pub mailbox : ℕ → ℕ
mailbox offset = offset / 4

abbrev pub is_outgoing : ℕ → Bool
is_outgoing offset = ltb offset 0x10

-- a mailbox's owner, who writes it, and the other side, who reads it: PCI owns the outgoing ones, the Add-On the incoming ones
abbrev pub writer : ℕ → Party
writer offset = cond (is_outgoing offset) host card

abbrev pub reader : ℕ → Party
reader offset = cond (is_outgoing offset) card host

abbrev pub fifo_port : ℕ
fifo_port = 0x20

-- 24 write address, 2C read address
abbrev pub address_at : Side → ℕ
address_at pci = 0x2C
address_at addon = 0x24

-- 28 write count, 30 read count
abbrev pub count_at : Side → ℕ
count_at pci = 0x30
count_at addon = 0x28

abbrev pub status_at : ℕ
status_at = 0x34

-- the interrupt register of either side, INTCSR of PCI and AINT of the Add-On (Ask 3)
abbrev pub interrupts_at : ℕ
interrupts_at = 0x38

-- the control register of either side, MCSR of PCI and AGCSTS of the Add-On
abbrev pub control_at : ℕ
control_at = 0x3C

-- PCI has a register at every fourth offset from 00 to 3C; the Add-On has the mailboxes, the FIFO port, the status and its own two registers
abbrev pub in_table : Side → ℕ → Bool
in_table pci offset = ltb offset 0x40 && eqb (offset % 4) 0
in_table addon offset = is_mailbox offset || eqb offset fifo_port || eqb offset status_at || eqb offset interrupts_at || eqb offset control_at

-- read-only on a side: the mailboxes that no party of it owns, and the status
abbrev pub is_read_only : Side → ℕ → Bool
is_read_only side offset = is_mailbox offset && not (same_side side (side_of (writer offset))) || eqb offset status_at
