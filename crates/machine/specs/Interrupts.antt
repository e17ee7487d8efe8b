-- INTCSR and MCSR, Ask 3: the interrupt registers, INTCSR of PCI and AINT of the Add-On: what they keep, the events, and the interrupt lines.
use Rattle.std.specs.Prelude.{ℕ, ◌+◌, ◌/◌, ◌%◌, ◌^◌, Bool, true, cond, ◌&&◌, ◌||◌, eqb}
use Rattle.std.specs.Int.Bits.{bit_and, bit_or}
use Rattle.machine.specs.Words.{bit, ones, shown, cleared, raised, written}
use Rattle.machine.specs.Sides.{Side, pci, addon, same_side, side_of, party_of, same_party}
use Rattle.machine.specs.State.{State, lane}
use Rattle.machine.specs.Offsets.{interrupts_at}
use Rattle.machine.specs.Access.{Access, Kind, reading, writing, cycle, chip_reset, unknown}
use Rattle.machine.specs.Mailboxes.{changes}
use Rattle.machine.specs.Cycles.{runs_out}

abbrev pub interrupts : Side → State → ℕ
interrupts pci st = st.intcsr
interrupts addon st = st.aint

-- the bits that stay as written, of either register: 4 to 0, 12 to 8, 15 and 14
abbrev pub interrupts_kept : Side → ℕ
interrupts_kept pci = ones 0 4 + ones 8 12 + ones 14 15
interrupts_kept addon = ones 0 4 + ones 8 12 + ones 14 15

-- the flags, which events set and a written one clears: 21 to 16; AINT has no 20, which is the self test's and left aside
abbrev pub flags : Side → ℕ
flags pci = ones 16 21
flags addon = ones 16 19 + ones 21 21

abbrev pub interrupts_held : Side → ℕ
interrupts_held side = interrupts_kept side + flags side

-- the kept bits are written; a one written to a flag clears it, a zero leaves it; both only where the byte is enabled
unfoldable pub interrupts_written : Side → ℕ → ℕ → ℕ → ℕ
interrupts_written side old new enables = bit_or (written (interrupts_kept side) old new enables) (cleared (bit_and old (flags side)) (shown new enables))

-- The status bit of the byte that bits 3:2 (mailbox, 0 is mailbox 1) and 1:0 (byte) choose among PCI's outgoing ones,
-- and that 11:10 and 9:8 choose among its incoming ones. AINT chooses by the same bits.
abbrev pub chosen_outgoing : ℕ → ℕ
chosen_outgoing i = i % 2 ^ 4

abbrev pub chosen_incoming : ℕ → ℕ
chosen_incoming i = 16 + i / 2 ^ 8 % 2 ^ 4

-- Ask 2, by the marks that an access changes: the outgoing event, enabled by bit 4, is that the chosen byte's does; the incoming one is enabled by 12
unfoldable pub outgoing_event : ℕ → ℕ → Bool
outgoing_event i changed = bit i 4 && bit changed (chosen_outgoing i)

unfoldable pub incoming_event : ℕ → ℕ → Bool
incoming_event i changed = bit i 12 && bit changed (chosen_incoming i)

-- what a side's register has after an access of the other side that changed marks: 16 by the outgoing event, 17 by the incoming one
unfoldable pub notified : ℕ → ℕ → ℕ
notified i changed = raised (raised i (outgoing_event i changed) 16) (incoming_event i changed) 17

-- the flag of a cycle that uses its count up: 18 of a write cycle, 19 of a read cycle
abbrev pub count_bit : Side → ℕ
count_bit pci = 19
count_bit addon = 18

-- A side's register after a done step that is no reset. The side's party writes it; the other side's accesses are its events, and so are cycles.
unfoldable pub interrupts_after : Side → Kind → State → Access → ℕ
interrupts_after side (reading by) st x = cond (same_side side (side_of by)) (interrupts side st) (notified (interrupts side st) (changes x st.marks))
interrupts_after side (writing by) st x =
    let i = interrupts side st in
    cond (same_side side (side_of by)) (cond (same_party (party_of side) by && eqb x.offset interrupts_at) (interrupts_written side i x.value x.enables) i) (notified i (changes x st.marks))
interrupts_after side (cycle of) st x = raised (interrupts side st) (runs_out (lane of st).count) (count_bit of)
interrupts_after side chip_reset st x = interrupts side st
interrupts_after side unknown st x = interrupts side st

-- INTCSR 20 and 21: an abort stands. Code 13 sets INTCSR 20 and AINT 21; nothing sets INTCSR 21 yet
abbrev pub abort_in : ℕ → Bool
abort_in i = bit i 20 || bit i 21

abbrev pub abort_bit : Side → ℕ
abort_bit pci = 20
abort_bit addon = 21

unfoldable pub interrupts_aborted : Side → ℕ → ℕ
interrupts_aborted side i = raised i true (abort_bit side)

-- a side's line is up while a flag of 16 to 19 stands together with its enable (4, 12, 14, 15), or an abort stands, which has no enable
unfoldable pub line_of : ℕ → Bool
line_of i = bit i 16 && bit i 4 || bit i 17 && bit i 12 || bit i 18 && bit i 14 || bit i 19 && bit i 15 || abort_in i

-- as it is read: what it holds, and the line at bit 23; in form all others are zero
unfoldable pub interrupts_read : ℕ → ℕ
interrupts_read i = raised i (line_of i) 23
