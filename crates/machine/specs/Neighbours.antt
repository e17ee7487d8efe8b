-- The table `Neighbours`: cases of our own, of the same form, for rules of document 01 that the ten marked examples do not reach.
use Rattle.std.specs.Prelude.{ℕ, true, false, List, [], ◌∷◌, ◌++◌, map, set, replicate}
use Rattle.machine.specs.State.{State, Lane, reset_state, reset_lane}
use Rattle.machine.specs.Window.{zero_words}
use Rattle.machine.specs.Run.{run}
use Rattle.machine.specs.Examples.{Example, MeetsTable, step_by, pci_read, pci_write, addon_read, addon_write, write_cycle, read_cycle, says, ok, moves, refuses, absent, high, addon_high, both_high, turning, nine_steps, example}
use Rattle.machine.specs.declared.Step.{Step}
use Rattle.machine.specs.declared.Answer.{Answer}

-- a case that begins in a state, over a window
abbrev pub case : State → ℕ → List ℕ → List Step → List Answer → Example
case state start memory steps answers =
    record { state = state; start = start; memory = memory; steps = steps; answers = answers; places = []; words = [] }

-- a lane
abbrev pub lane_by : List ℕ → ℕ → ℕ → Lane
lane_by words address count = record { words = words; address = address; count = count; right = false }

-- the same with the right of a burst
abbrev pub bursting : List ℕ → ℕ → ℕ → Lane
bursting words address count = record { words = words; address = address; count = count; right = true }

-- a state with no mailbox byte stored
abbrev pub state_by : Lane → Lane → ℕ → ℕ → State
state_by from_pci from_addon intcsr mcsr =
    record { mail = replicate 8 0; marks = 0; from_pci = from_pci; from_addon = from_addon; intcsr = intcsr; mcsr = mcsr; aint = 0 }

-- the same with something in AINT
abbrev pub with_aint : ℕ → State → State
with_aint aint st =
    record { mail = st.mail; marks = st.marks; from_pci = st.from_pci; from_addon = st.from_addon; intcsr = st.intcsr; mcsr = st.mcsr; aint = aint }

-- an abort stands in INTCSR, so PCI's line is high
abbrev pub abort_standing : State
abort_standing = state_by reset_lane reset_lane 0x100000 0

-- ---- codes 1 and 2: of a read, a cycle, a chip reset and an unknown kind; both lines are zero for 1, the state's for 2

abbrev pub any_kinds : List Step
any_kinds = pci_read 0x34 ∷ write_cycle ∷ step_by 6 0 0 0 ∷ step_by 7 0 0 0 ∷ []

abbrev pub same_four : Answer → List Answer
same_four a = a ∷ a ∷ a ∷ a ∷ []

abbrev pub out_of_form : List State
out_of_form =
    state_by (lane_by (replicate 9 0) 0 0) reset_lane 0x100000 0 ∷ state_by reset_lane (lane_by (replicate 9 0) 0 0) 0x100000 0
    ∷ state_by (lane_by [] 2 0) reset_lane 0x100000 0 ∷ state_by reset_lane (lane_by [] 0x101 0) 0x100000 0
    ∷ state_by (lane_by [] 0 0x04000000) reset_lane 0x100000 0 ∷ state_by reset_lane (lane_by [] 0 0xFFFFFFFF) 0x100000 0
    ∷ state_by reset_lane reset_lane 0x100020 0 ∷ state_by reset_lane reset_lane 0x102000 0 ∷ state_by reset_lane reset_lane 0x900000 0
    ∷ state_by reset_lane reset_lane 0x100000 0x800 ∷ state_by reset_lane reset_lane 0x100000 0x80 ∷ state_by reset_lane reset_lane 0x100000 0x08000000 ∷ []

abbrev pub right_out_of_form : List State
right_out_of_form =
    state_by reset_lane (bursting [] 0 16) 0 0x600 ∷ state_by reset_lane (bursting (1 ∷ []) 0 0) 0 0x600 ∷ state_by reset_lane (bursting (1 ∷ []) 0 16) 0 0x400
    ∷ state_by reset_lane (bursting (1 ∷ []) 0 16) 0 0x200 ∷ state_by reset_lane (bursting (1 ∷ []) 0 16) 0x100000 0x600
    ∷ state_by reset_lane (bursting (1 ∷ []) 0 16) 0x200000 0x600 ∷ state_by (bursting (replicate 8 0) 0 16) reset_lane 0 0x6000
    ∷ state_by (bursting [] 0 0) reset_lane 0 0x6000 ∷ state_by (bursting [] 0 16) reset_lane 0 0x4000 ∷ state_by (bursting [] 0 16) reset_lane 0 0x2000
    ∷ state_by (bursting [] 0 16) reset_lane 0x100000 0x6000 ∷ state_by (bursting [] 0 16) reset_lane 0x200000 0x6000 ∷ []

abbrev pub form_cases : List Example
form_cases =
    map (λ st. case (with_aint 0x200000 st) 0 zero_words any_kinds (same_four (refuses 1))) out_of_form
    -- a right together with each of its ends
    ++ map (λ st. case (with_aint 0x200000 st) 0 zero_words any_kinds (same_four (refuses 1))) right_out_of_form
    -- AINT holds no 5, 13, 20, 22 and 23
    ++ map (λ aint. case (with_aint aint abort_standing) 0 zero_words any_kinds (same_four (refuses 1))) (0x200020 ∷ 0x202000 ∷ 0x300000 ∷ 0x600000 ∷ 0xA00000 ∷ [])

-- as full as form allows, so a chip reset is done; the window's faults; the largest window and the empty one
abbrev pub window_cases : List Example
window_cases =
    case (with_aint 0x2FDF1F (state_by (lane_by (replicate 8 0) 0xFFFFFFFC 0x03FFFFFF) (lane_by (replicate 8 0) 4 1) 0x3FDF1F 0xF700)) 0 zero_words (step_by 6 0xFF 99 5 ∷ []) (ok ∷ [])
    ∷ case abort_standing 1 zero_words any_kinds (same_four (high (refuses 2)))
    ∷ case abort_standing 2 zero_words any_kinds (same_four (high (refuses 2)))
    ∷ case abort_standing 0 (replicate 16385 0) any_kinds (same_four (high (refuses 2)))
    ∷ case reset_state 0xFFFFFFFC (replicate 16384 0) (step_by 6 0 0 0 ∷ []) (ok ∷ [])
    ∷ case (state_by (lane_by [] 0 4) (lane_by (7 ∷ []) 0 4) 0 0x4400) 0 [] (write_cycle ∷ step_by 6 0 0 0 ∷ []) (absent 0 ∷ ok ∷ [])
    -- a window that wraps: four words from FFFFFFF8
    ∷ record {
      state = state_by reset_lane (lane_by (1 ∷ 2 ∷ 3 ∷ []) 0xFFFFFFFC 12) 0 0x400;
      start = 0xFFFFFFF8;
      memory = replicate 4 9;
      steps = write_cycle ∷ write_cycle ∷ write_cycle ∷ pci_read 0x24 ∷ [];
      answers = moves 0xFFFFFFFC 1 0xF ∷ moves 0 2 0xF ∷ moves 4 3 0xF ∷ says 8 ∷ [];
      places = 0 ∷ 1 ∷ 2 ∷ 3 ∷ [];
      words = 9 ∷ 1 ∷ 2 ∷ 3 ∷ [];
    }
    -- a read cycle over a window that begins at 100: done, no memory there, abort stands; nothing more is let in
    ∷ case (state_by (lane_by [] 0x100 8) reset_lane 0 0x4000) 0x100 (7 ∷ [])
    (read_cycle ∷ read_cycle ∷ read_cycle ∷ addon_read 0x20 ∷ addon_read 0x20 ∷ pci_read 0x2C ∷ pci_read 0x30 ∷ [])
    (moves 0x100 7 0xF ∷ absent 0x104 ∷ both_high (refuses 11) ∷ both_high (says 7) ∷ both_high (refuses 8) ∷ both_high (says 0x104) ∷ both_high (says 4) ∷ [])
    -- the read address wraps too
    ∷ case (state_by (lane_by [] 0xFFFFFFFC 8) reset_lane 0 0x4000) 0xFFFFFFFC (1 ∷ 2 ∷ []) (read_cycle ∷ read_cycle ∷ pci_read 0x2C ∷ [])
    (moves 0xFFFFFFFC 1 0xF ∷ moves 0 2 0xF ∷ says 4 ∷ [])
    -- below the start there is no memory
    ∷ case (state_by reset_lane (lane_by (1 ∷ []) 0xFC 4) 0 0x400) 0x100 zero_words (write_cycle ∷ []) (absent 0xFC ∷ [])
    ∷ []

-- ---- codes 3 to 8, lowest first

abbrev pub access_cases : List Example
access_cases =
    -- kinds above 6
    example (step_by 7 0 0 0 ∷ step_by 0xFFFFFFFF 0xFF 99 0 ∷ []) (refuses 3 ∷ refuses 3 ∷ [])
    -- offsets that are not in the side's table, before the enables
    ∷ example
    (pci_read 0x40 ∷ pci_read 0x01 ∷ pci_write 0x22 0 ∷ step_by 0 0x41 16 0 ∷ addon_read 0x24 ∷ addon_read 0x39 ∷ addon_write 0x40 0 ∷ addon_read 0x03 ∷ [])
    (refuses 4 ∷ refuses 4 ∷ refuses 4 ∷ refuses 4 ∷ refuses 4 ∷ refuses 4 ∷ refuses 4 ∷ refuses 4 ∷ [])
    ∷ example (addon_read 0x28 ∷ addon_read 0x2C ∷ addon_read 0x30 ∷ []) (refuses 4 ∷ refuses 4 ∷ refuses 4 ∷ [])
    -- offsets above FF, whose lowest byte is in the table
    ∷ example (pci_read 0x100 ∷ pci_write 0x13C 0 ∷ addon_read 0x134 ∷ step_by 2 0xFFFFFF00 15 0 ∷ []) (refuses 4 ∷ refuses 4 ∷ refuses 4 ∷ refuses 4 ∷ [])
    -- enables above 15, before part FIFO accesses and read-only registers
    ∷ example
    (step_by 0 0 16 0 ∷ step_by 1 0x34 16 0 ∷ step_by 2 0x20 31 0 ∷ step_by 1 0x3C 16 0 ∷ step_by 3 0x10 16 0 ∷ [])
    (refuses 5 ∷ refuses 5 ∷ refuses 5 ∷ refuses 5 ∷ refuses 5 ∷ [])
    -- enables above FF, whose lowest bits are good ones
    ∷ example (step_by 0 0 0x100 0 ∷ step_by 1 0 0x10F 1 ∷ step_by 3 0x10 0xFFFFFFFF 1 ∷ []) (refuses 5 ∷ refuses 5 ∷ refuses 5 ∷ [])
    -- part FIFO accesses, before empty
    ∷ example (step_by 0 0x20 0 0 ∷ step_by 1 0x20 7 0 ∷ step_by 2 0x20 14 0 ∷ step_by 3 0x20 1 0 ∷ []) (refuses 6 ∷ refuses 6 ∷ refuses 6 ∷ refuses 6 ∷ [])
    -- read-only registers, also with enables of 0
    ∷ example
    (pci_write 0x10 1 ∷ step_by 1 0x1C 0 1 ∷ pci_write 0x34 1 ∷ addon_write 0x00 1 ∷ step_by 3 0x0C 0 1 ∷ addon_write 0x34 1 ∷ pci_read 0x34 ∷ [])
    (refuses 7 ∷ refuses 7 ∷ refuses 7 ∷ refuses 7 ∷ refuses 7 ∷ refuses 7 ∷ says 0 ∷ [])
    ∷ example (pci_write 0x14 1 ∷ pci_write 0x18 1 ∷ addon_write 0x04 1 ∷ addon_write 0x08 1 ∷ []) (refuses 7 ∷ refuses 7 ∷ refuses 7 ∷ refuses 7 ∷ [])
    -- empty FIFOs
    ∷ example (pci_read 0x20 ∷ addon_read 0x20 ∷ []) (refuses 8 ∷ refuses 8 ∷ [])
    ∷ []

-- ---- mailboxes

abbrev pub mail_cases : List Example
mail_cases =
    -- the owner's read changes no mark, the other side's read empties the enabled bytes, an empty byte reads as last stored, a write takes enabled bytes
    example
    (pci_write 0x04 0x11223344 ∷ pci_read 0x04 ∷ pci_read 0x34 ∷ step_by 2 0x04 5 0 ∷ addon_read 0x34 ∷ addon_read 0x04 ∷ pci_read 0x34 ∷ step_by 1 0x04 2 0xAABBCCDD
    ∷ pci_read 0x04 ∷ pci_read 0x34 ∷ [])
    (turning 0xF0 ok ∷ says 0x11223344 ∷ says 0xF0 ∷ turning 0x50 (says 0x11223344) ∷ says 0xA0 ∷ turning 0xA0 (says 0x11223344) ∷ says 0 ∷ turning 0x20 ok ∷ says 0x1122CC44
    ∷ says 0x20 ∷ [])
    -- the highest bytes of both halves; enables of 0 change nothing
    ∷ example
    (step_by 1 0x0C 8 0x5A000000 ∷ step_by 3 0x1C 8 0xC3000000 ∷ addon_read 0x34 ∷ step_by 1 0x00 0 0xFF ∷ step_by 2 0x0C 0 0 ∷ step_by 0 0x34 8 0 ∷ addon_read 0x1C
    ∷ pci_read 0x34 ∷ [])
    (turning 0x8000 ok ∷ turning 0x80000000 ok ∷ says 0x80008000 ∷ ok ∷ says 0x5A000000 ∷ says 0x80008000 ∷ says 0xC3000000 ∷ says 0x80008000 ∷ [])
    -- an incoming byte stays when it is read, and when MCSR 27 marks it empty
    ∷ example (addon_write 0x14 7 ∷ pci_read 0x14 ∷ pci_read 0x14 ∷ pci_write 0x3C 0x08000000 ∷ pci_read 0x14 ∷ [])
    (turning 0xF00000 ok ∷ turning 0xF00000 (says 7) ∷ says 7 ∷ ok ∷ says 7 ∷ [])
    -- writes of other registers store in no mailbox
    ∷ example
    (pci_write 0x00 0x11223344 ∷ addon_write 0x1C 5 ∷ pci_write 0x20 0 ∷ pci_write 0x24 0 ∷ pci_write 0x28 0 ∷ pci_write 0x2C 0 ∷ pci_write 0x30 0 ∷ pci_write 0x38 0
    ∷ pci_read 0x00 ∷ pci_read 0x1C ∷ [])
    (turning 0xF ok ∷ turning 0xF0000000 ok ∷ ok ∷ ok ∷ ok ∷ ok ∷ ok ∷ ok ∷ says 0x11223344 ∷ turning 0xF0000000 (says 5) ∷ [])
    -- MCSR 27 marks every byte empty, where its byte is enabled; the bytes stay
    ∷ example
    (pci_write 0x08 6 ∷ addon_write 0x14 7 ∷ step_by 1 0x3C 7 0x08000000 ∷ pci_read 0x34 ∷ step_by 1 0x3C 8 0x08000000 ∷ pci_read 0x34 ∷ addon_read 0x08 ∷ pci_read 0x3C ∷ [])
    (turning 0xF00 ok ∷ turning 0xF00000 ok ∷ ok ∷ says 0x00F00F00 ∷ ok ∷ says 0 ∷ says 6 ∷ says 0xE6 ∷ [])
    ∷ []

-- ---- FIFOs and cycles

abbrev pub cycle_cases : List Example
cycle_cases =
    -- MCSR 25 empties the FIFO from PCI only, 26 the one from the Add-On, where their byte is enabled
    example
    (pci_write 0x20 1 ∷ addon_write 0x20 2 ∷ step_by 1 0x3C 7 0x06000000 ∷ step_by 1 0x3C 8 0x02000000 ∷ pci_read 0x3C ∷ addon_read 0x20 ∷ step_by 1 0x3C 8 0x04000000
    ∷ pci_read 0x20 ∷ [])
    (ok ∷ ok ∷ ok ∷ ok ∷ says 0xC6 ∷ refuses 8 ∷ ok ∷ refuses 8 ∷ [])
    -- they leave the addresses and counts
    ∷ case (state_by (lane_by (1 ∷ []) 4 5) (lane_by (2 ∷ []) 8 6) 0 0) 0 []
    (pci_write 0x3C 0x06000000 ∷ pci_read 0x24 ∷ pci_read 0x28 ∷ pci_read 0x2C ∷ pci_read 0x30 ∷ []) (ok ∷ says 8 ∷ says 6 ∷ says 4 ∷ says 5 ∷ [])
    -- read cycles with count 6: the second lets in two bytes; the count's zero sets 19, whose line 15 enables
    ∷ case reset_state 0 (set (set zero_words 0xFFE 0x11223344) 0xFFF 0x55667788)
    (pci_write 0x2C 0x3FF8 ∷ pci_write 0x30 6 ∷ pci_write 0x3C 0x4000 ∷ read_cycle ∷ read_cycle ∷ read_cycle ∷ pci_read 0x38 ∷ pci_read 0x2C ∷ pci_read 0x30
    ∷ addon_read 0x20 ∷ addon_read 0x20 ∷ pci_write 0x38 0x8000 ∷ pci_read 0x38 ∷ [])
    (ok ∷ ok ∷ ok ∷ moves 0x3FF8 0x11223344 0xF ∷ moves 0x3FFC 0x7788 0x3 ∷ refuses 10 ∷ says 0x80000 ∷ says 0x4000 ∷ says 0
    ∷ says 0x11223344 ∷ says 0x7788 ∷ high ok ∷ high (says 0x888000) ∷ [])
    -- MCSR 13: room for four is needed; five words held, then four
    ∷ example
    (pci_write 0x30 8 ∷ pci_write 0x3C 0x6000 ∷ pci_write 0x20 1 ∷ pci_write 0x20 2 ∷ pci_write 0x20 3 ∷ pci_write 0x20 4 ∷ pci_write 0x20 5 ∷ read_cycle
    ∷ addon_read 0x20 ∷ read_cycle ∷ pci_read 0x3C ∷ [])
    (ok ∷ ok ∷ ok ∷ ok ∷ ok ∷ ok ∷ ok ∷ refuses 12 ∷ says 1 ∷ moves 0 0 0xF ∷ says 0x60A0 ∷ [])
    -- transfers off, counts zero, FIFOs not ready; cycles ignore their offset, enables and data
    ∷ example
    (write_cycle ∷ read_cycle ∷ pci_write 0x3C 0x4400 ∷ step_by 4 0xFF 99 7 ∷ read_cycle ∷ pci_write 0x28 4 ∷ write_cycle ∷ [])
    (refuses 9 ∷ refuses 9 ∷ ok ∷ refuses 10 ∷ refuses 10 ∷ ok ∷ refuses 12 ∷ [])
    -- MCSR 15, 12 and 8 enable nothing
    ∷ example (pci_write 0x3C 0x9100 ∷ pci_write 0x28 4 ∷ pci_write 0x30 4 ∷ write_cycle ∷ read_cycle ∷ []) (ok ∷ ok ∷ ok ∷ refuses 9 ∷ refuses 9 ∷ [])
    -- and prevent nothing; cycles leave MCSR, and INTCSR's kept bits
    ∷ case (state_by (lane_by [] 0 8) (lane_by (7 ∷ []) 4 8) 0xDF1F 0xD500) 0 (5 ∷ 6 ∷ []) (write_cycle ∷ read_cycle ∷ pci_read 0x38 ∷ pci_read 0x3C ∷ [])
    (moves 4 7 0xF ∷ moves 0 5 0xF ∷ says 0xDF1F ∷ says 0xD522 ∷ [])
    -- write cycles with counts 3 and 2
    ∷ record {
      state = state_by reset_lane (lane_by (0x11223344 ∷ 0x55667788 ∷ []) 0 3) 0 0x400;
      start = 0;
      memory = 0xAAAAAAAA ∷ 0xBBBBBBBB ∷ [];
      steps = write_cycle ∷ pci_write 0x28 2 ∷ write_cycle ∷ [];
      answers = moves 0 0x11223344 0x7 ∷ ok ∷ moves 4 0x55667788 0x3 ∷ [];
      places = 0 ∷ 1 ∷ [];
      words = 0xAA223344 ∷ 0xBBBB7788 ∷ [];
    }
    -- the lowest first: off before count, count before abort, abort before ready
    ∷ case abort_standing 0 [] (write_cycle ∷ pci_write 0x3C 0x400 ∷ write_cycle ∷ pci_write 0x28 4 ∷ write_cycle ∷ [])
    (high (refuses 9) ∷ high ok ∷ high (refuses 10) ∷ high ok ∷ high (refuses 11) ∷ [])
    -- part writes of addresses and counts; a count written zero sets no bit
    ∷ example
    (step_by 1 0x28 1 0xFFFFFFFF ∷ pci_read 0x28 ∷ step_by 1 0x30 8 0xFFFFFFFF ∷ pci_read 0x30 ∷ step_by 1 0x2C 5 0x12345677 ∷ pci_read 0x2C ∷ step_by 0 0x2C 4 0
    ∷ pci_write 0x28 0 ∷ pci_read 0x38 ∷ [])
    (ok ∷ says 0xFF ∷ ok ∷ says 0x03000000 ∷ ok ∷ says 0x340074 ∷ says 0x340074 ∷ ok ∷ says 0 ∷ [])
    -- part writes of MCSR, part reads of MCSR and INTCSR
    ∷ example
    (pci_write 0x3C 0xF700 ∷ step_by 1 0x3C 13 0 ∷ pci_read 0x3C ∷ step_by 0 0x3C 1 0 ∷ step_by 1 0x3C 2 0 ∷ pci_read 0x3C ∷ pci_write 0x38 0x1F1F ∷ step_by 0 0x38 2 0 ∷ [])
    (ok ∷ ok ∷ says 0xF7E6 ∷ says 0xF7E6 ∷ ok ∷ says 0xE6 ∷ ok ∷ says 0x1F1F ∷ [])
    -- a chip reset leaves host memory and zeroes the rest
    ∷ record {
      state = state_by (lane_by (1 ∷ []) 8 1) (lane_by (2 ∷ []) 4 2) 0x10DF1F 0xF700;
      start = 0;
      memory = 5 ∷ 6 ∷ [];
      steps = pci_write 0x00 9 ∷ step_by 6 0 0 0 ∷ pci_read 0x00 ∷ pci_read 0x34 ∷ pci_read 0x38 ∷ pci_read 0x3C ∷ pci_read 0x24 ∷ pci_read 0x2C ∷ [];
      answers = turning 0xF (high ok) ∷ ok ∷ says 0 ∷ says 0 ∷ says 0 ∷ says 0xE6 ∷ says 0 ∷ says 0 ∷ [];
      places = 0 ∷ 1 ∷ [];
      words = 5 ∷ 6 ∷ [];
    }
    ∷ []

-- ---- the right of a burst (Ask 5)

-- four words of memory; the write lane, then the read lane, with the right, and steps
abbrev pub four_zeros : List ℕ
four_zeros = replicate 4 0

abbrev pub written : List ℕ → ℕ → List Step → List Answer → Example
written words count steps answers = case (state_by reset_lane (bursting words 0 count) 0 0x600) 0 four_zeros steps answers

abbrev pub read : List ℕ → ℕ → List Step → List Answer → Example
read words count steps answers = case (state_by (bursting words 0 count) reset_lane 0 0x6000) 0 four_zeros steps answers

abbrev pub burst_cases : List Example
burst_cases =
    -- in form, so a reset is done; the right is gone after it
    case (state_by (bursting (replicate 7 0) 0 1) (bursting (1 ∷ []) 0 1) 0xFDF1F 0x6600) 0 four_zeros
    (step_by 6 0 0 0 ∷ pci_write 0x28 16 ∷ pci_write 0x3C 0x600 ∷ addon_write 0x20 1 ∷ write_cycle ∷ []) (ok ∷ ok ∷ ok ∷ ok ∷ refuses 12 ∷ [])
    -- write cycles go while a word is held; the last one empties the FIFO
    ∷ written (1 ∷ 2 ∷ []) 16 (write_cycle ∷ write_cycle ∷ addon_write 0x20 3 ∷ write_cycle ∷ []) (moves 0 1 0xF ∷ moves 4 2 0xF ∷ ok ∷ refuses 12 ∷ [])
    -- not earned without MCSR 9, nor by a cycle with three held; earned by what is held before the cycle
    ∷ case (state_by reset_lane (lane_by (1 ∷ 2 ∷ 3 ∷ 4 ∷ []) 0 16) 0 0x400) 0 four_zeros (write_cycle ∷ pci_write 0x3C 0x600 ∷ write_cycle ∷ []) (moves 0 1 0xF ∷ ok ∷ refuses 12 ∷ [])
    ∷ case (state_by reset_lane (lane_by (1 ∷ 2 ∷ 3 ∷ []) 0 16) 0 0x400) 0 four_zeros (write_cycle ∷ pci_write 0x3C 0x600 ∷ write_cycle ∷ []) (moves 0 1 0xF ∷ ok ∷ refuses 12 ∷ [])
    ∷ case (state_by (lane_by (1 ∷ 2 ∷ 3 ∷ 4 ∷ []) 0 16) reset_lane 0 0x6000) 0 four_zeros
    (read_cycle ∷ read_cycle ∷ read_cycle ∷ read_cycle ∷ read_cycle ∷ addon_read 0x20 ∷ read_cycle ∷ [])
    (moves 0 0 0xF ∷ moves 4 0 0xF ∷ moves 8 0 0xF ∷ moves 0xC 0 0xF ∷ refuses 10 ∷ says 1 ∷ refuses 10 ∷ [])
    ∷ case (state_by (lane_by (1 ∷ 2 ∷ 3 ∷ 4 ∷ 5 ∷ []) 0 16) reset_lane 0 0x4000) 0 four_zeros (read_cycle ∷ pci_write 0x3C 0x6000 ∷ read_cycle ∷ []) (moves 0 0 0xF ∷ ok ∷ refuses 12 ∷ [])
    -- a port read that empties the FIFO, and one that does not
    ∷ written (1 ∷ []) 16 (pci_read 0x20 ∷ addon_write 0x20 2 ∷ write_cycle ∷ []) (says 1 ∷ ok ∷ refuses 12 ∷ [])
    ∷ written (1 ∷ 2 ∷ []) 16 (pci_read 0x20 ∷ write_cycle ∷ []) (says 1 ∷ moves 0 2 0xF ∷ [])
    -- the count zero by a cycle, by a write, and a write that leaves a count
    ∷ written (1 ∷ 2 ∷ []) 4 (write_cycle ∷ pci_write 0x28 16 ∷ write_cycle ∷ []) (moves 0 1 0xF ∷ ok ∷ refuses 12 ∷ [])
    ∷ written (1 ∷ 2 ∷ []) 16 (pci_write 0x28 0 ∷ pci_write 0x28 16 ∷ write_cycle ∷ []) (ok ∷ ok ∷ refuses 12 ∷ [])
    ∷ written (1 ∷ 2 ∷ []) 16 (pci_write 0x28 1 ∷ pci_write 0x24 4 ∷ write_cycle ∷ []) (ok ∷ ok ∷ moves 4 1 0x1 ∷ [])
    -- MCSR 9 off, 10 off, and a write without their byte
    ∷ written (1 ∷ 2 ∷ []) 16 (pci_write 0x3C 0x400 ∷ pci_write 0x3C 0x600 ∷ write_cycle ∷ []) (ok ∷ ok ∷ refuses 12 ∷ [])
    ∷ written (1 ∷ 2 ∷ []) 16 (pci_write 0x3C 0x200 ∷ pci_write 0x3C 0x600 ∷ write_cycle ∷ []) (ok ∷ ok ∷ refuses 12 ∷ [])
    ∷ written (1 ∷ 2 ∷ []) 16 (step_by 1 0x3C 13 0 ∷ write_cycle ∷ []) (ok ∷ moves 0 1 0xF ∷ [])
    -- clears: its own FIFO's of either side, also of an empty one; the other's leaves it
    ∷ written (1 ∷ 2 ∷ []) 16 (pci_write 0x3C 0x04000600 ∷ addon_write 0x20 3 ∷ write_cycle ∷ []) (ok ∷ ok ∷ refuses 12 ∷ [])
    ∷ written (1 ∷ 2 ∷ []) 16 (addon_write 0x3C 0x02000000 ∷ addon_write 0x20 3 ∷ write_cycle ∷ []) (ok ∷ ok ∷ refuses 12 ∷ [])
    ∷ written (1 ∷ 2 ∷ []) 16 (pci_write 0x3C 0x02000600 ∷ addon_write 0x3C 0x04000000 ∷ write_cycle ∷ []) (ok ∷ ok ∷ moves 0 1 0xF ∷ [])
    -- refusals leave it
    ∷ written (1 ∷ 2 ∷ []) 16 (read_cycle ∷ pci_read 0x40 ∷ step_by 1 0x20 7 0 ∷ addon_read 0x20 ∷ write_cycle ∷ []) (refuses 9 ∷ refuses 4 ∷ refuses 6 ∷ refuses 8 ∷ moves 0 1 0xF ∷ [])
    -- read cycles go while there is room; the last one fills the FIFO
    ∷ read (replicate 6 9) 16 (read_cycle ∷ read_cycle ∷ addon_read 0x20 ∷ read_cycle ∷ []) (moves 0 0 0xF ∷ moves 4 0 0xF ∷ says 9 ∷ refuses 12 ∷ [])
    -- a port write that fills it, and one that does not
    ∷ read (replicate 7 9) 16 (pci_write 0x20 1 ∷ addon_read 0x20 ∷ read_cycle ∷ []) (ok ∷ says 9 ∷ refuses 12 ∷ [])
    ∷ read (replicate 6 9) 16 (pci_write 0x20 1 ∷ read_cycle ∷ []) (ok ∷ moves 0 0 0xF ∷ [])
    ∷ read (replicate 7 9) 4 (addon_read 0x20 ∷ read_cycle ∷ pci_write 0x30 16 ∷ read_cycle ∷ []) (says 9 ∷ moves 0 0 0xF ∷ ok ∷ refuses 12 ∷ [])
    ∷ read (replicate 6 9) 16 (pci_write 0x30 0 ∷ pci_write 0x30 16 ∷ read_cycle ∷ []) (ok ∷ ok ∷ refuses 12 ∷ [])
    ∷ read (replicate 6 9) 16 (pci_write 0x30 1 ∷ pci_write 0x2C 4 ∷ read_cycle ∷ []) (ok ∷ ok ∷ moves 4 0 0x1 ∷ [])
    ∷ read (replicate 6 9) 16 (pci_write 0x3C 0x4000 ∷ pci_write 0x3C 0x6000 ∷ read_cycle ∷ []) (ok ∷ ok ∷ refuses 12 ∷ [])
    ∷ read (replicate 6 9) 16 (pci_write 0x3C 0x2000 ∷ pci_write 0x3C 0x6000 ∷ read_cycle ∷ []) (ok ∷ ok ∷ refuses 12 ∷ [])
    ∷ read [] 16 (pci_write 0x3C 0x02006000 ∷ pci_write 0x20 1 ∷ pci_write 0x20 2 ∷ pci_write 0x20 3 ∷ pci_write 0x20 4 ∷ pci_write 0x20 5 ∷ read_cycle ∷ [])
    (ok ∷ ok ∷ ok ∷ ok ∷ ok ∷ ok ∷ refuses 12 ∷ [])
    ∷ read [] 16 (addon_write 0x3C 0x04000000 ∷ pci_write 0x20 1 ∷ pci_write 0x20 2 ∷ pci_write 0x20 3 ∷ pci_write 0x20 4 ∷ pci_write 0x20 5 ∷ read_cycle ∷ [])
    (ok ∷ ok ∷ ok ∷ ok ∷ ok ∷ ok ∷ refuses 12 ∷ [])
    ∷ read (replicate 6 9) 16 (pci_write 0x3C 0x04006000 ∷ addon_write 0x3C 0x02000000 ∷ read_cycle ∷ []) (ok ∷ ok ∷ moves 0 0 0xF ∷ [])
    -- an abort of either direction ends both; before it each cycle may take what the other's cannot
    ∷ case (state_by (bursting (replicate 6 9) 0 16) (bursting (1 ∷ 2 ∷ []) 0x10 16) 0 0x6600) 0 four_zeros
    (write_cycle ∷ pci_write 0x38 0x00100000 ∷ pci_write 0x24 0 ∷ write_cycle ∷ read_cycle ∷ []) (absent 0x10 ∷ addon_high ok ∷ addon_high ok ∷ addon_high (refuses 12) ∷ addon_high (refuses 12) ∷ [])
    ∷ case (state_by (bursting (replicate 6 9) 0x10 16) (bursting (1 ∷ 2 ∷ []) 0 16) 0 0x6600) 0 four_zeros
    (read_cycle ∷ pci_write 0x38 0x00100000 ∷ pci_write 0x2C 0 ∷ write_cycle ∷ read_cycle ∷ []) (absent 0x10 ∷ addon_high ok ∷ addon_high ok ∷ addon_high (refuses 12) ∷ addon_high (refuses 12) ∷ [])
    -- each direction's right is its own, and so are its ends
    ∷ case (state_by (bursting (replicate 6 9) 0 16) (bursting (1 ∷ 2 ∷ []) 0 16) 0 0x6600) 0 four_zeros (pci_write 0x30 0 ∷ write_cycle ∷ pci_write 0x30 16 ∷ read_cycle ∷ [])
    (ok ∷ moves 0 1 0xF ∷ ok ∷ refuses 12 ∷ [])
    ∷ case (state_by (bursting (replicate 6 9) 0 16) (bursting (1 ∷ 2 ∷ []) 0 16) 0 0x6600) 0 four_zeros (pci_write 0x3C 0x6400 ∷ read_cycle ∷ pci_write 0x3C 0x6600 ∷ write_cycle ∷ [])
    (ok ∷ moves 0 0 0xF ∷ ok ∷ refuses 12 ∷ [])
    -- AINT's abort bit ends none
    ∷ case (with_aint 0x200000 (state_by reset_lane (bursting (1 ∷ 2 ∷ []) 0 16) 0 0x600)) 0 four_zeros (write_cycle ∷ write_cycle ∷ []) (addon_high (moves 0 1 0xF) ∷ addon_high (moves 4 2 0xF) ∷ [])
    ∷ []

-- ---- events and the line

abbrev pub event_cases : List Example
event_cases =
    -- outgoing mailbox 2 byte 1 is chosen: an Add-On read of another byte or mailbox, or a PCI read, is no event; the line lowers with its enable
    example
    (pci_write 0x38 0x15 ∷ pci_write 0x04 0 ∷ step_by 2 0x04 13 0 ∷ addon_read 0x00 ∷ pci_read 0x04 ∷ step_by 2 0x04 2 0 ∷ pci_read 0x38 ∷ step_by 1 0x38 3 0x10005 ∷ pci_read 0x38
    ∷ step_by 1 0x38 4 0x10000 ∷ pci_read 0x38 ∷ addon_read 0x04 ∷ pci_read 0x38 ∷ [])
    (ok ∷ turning 0xF0 ok ∷ turning 0xD0 ok ∷ ok ∷ ok ∷ turning 0x20 (high ok) ∷ high (says 0x810015) ∷ ok ∷ says 0x10005 ∷ ok ∷ says 0x5 ∷ ok ∷ says 0x5 ∷ [])
    -- incoming mailbox 4 byte 2 is chosen: an Add-On write of it is the event, a PCI read is none
    ∷ example
    (pci_write 0x38 0x1E00 ∷ step_by 3 0x1C 11 0 ∷ addon_write 0x18 0 ∷ pci_read 0x1C ∷ step_by 3 0x1C 4 0 ∷ pci_read 0x38 ∷ pci_write 0x38 0x20000 ∷ addon_write 0x1C 0 ∷ [])
    (ok ∷ turning 0xB0000000 ok ∷ turning 0xF000000 ok ∷ turning 0xB0000000 ok ∷ turning 0x40000000 (high ok) ∷ high (says 0x821E00) ∷ ok ∷ turning 0xB0000000 ok ∷ [])
    -- one message, one event: a card that polls an emptied byte raises nothing, nor does one that writes a full byte again
    ∷ example
    (pci_write 0x38 0x15 ∷ pci_write 0x04 0 ∷ addon_read 0x04 ∷ step_by 1 0x38 4 0x10000 ∷ addon_read 0x04 ∷ pci_read 0x38 ∷ [])
    (ok ∷ turning 0xF0 ok ∷ turning 0xF0 (high ok) ∷ ok ∷ ok ∷ says 0x15 ∷ [])
    ∷ example
    (pci_write 0x38 0x1E00 ∷ addon_write 0x1C 0 ∷ step_by 1 0x38 4 0x20000 ∷ addon_write 0x1C 0 ∷ pci_read 0x38 ∷ [])
    (ok ∷ turning 0xF0000000 (high ok) ∷ ok ∷ ok ∷ says 0x1E00 ∷ [])
    -- a clear of chosen bytes that are full raises neither, and tells of no mark; a chosen byte without its enable raises nothing
    ∷ example
    (pci_write 0x38 0x1E15 ∷ pci_write 0x04 0 ∷ addon_write 0x1C 0 ∷ step_by 1 0x38 4 0x20000 ∷ pci_write 0x3C 0x08000000 ∷ pci_read 0x38 ∷ pci_read 0x34 ∷ [])
    (ok ∷ turning 0xF0 ok ∷ turning 0xF0000000 (high ok) ∷ ok ∷ ok ∷ says 0x1E15 ∷ says 0 ∷ [])
    ∷ example
    (pci_write 0x38 0xE05 ∷ pci_write 0x04 0 ∷ addon_read 0x04 ∷ addon_write 0x1C 0 ∷ pci_read 0x38 ∷ [])
    (ok ∷ turning 0xF0 ok ∷ turning 0xF0 ok ∷ turning 0xF0000000 ok ∷ says 0xE05 ∷ [])
    -- a flag without its own enable is no line: first each enable with the three flags that are not its own, then with its own; 21 needs none
    ∷ case (state_by reset_lane reset_lane 0xE0F1F 0) 0 [] (pci_read 0x34 ∷ []) (says 0 ∷ [])
    ∷ case (state_by reset_lane reset_lane 0xD1F0F 0) 0 [] (pci_read 0x34 ∷ []) (says 0 ∷ [])
    ∷ case (state_by reset_lane reset_lane 0xB4F0F 0) 0 [] (pci_read 0x34 ∷ []) (says 0 ∷ [])
    ∷ case (state_by reset_lane reset_lane 0x78F0F 0) 0 [] (pci_read 0x34 ∷ []) (says 0 ∷ [])
    ∷ case (state_by reset_lane reset_lane 0x10010 0) 0 [] (pci_read 0x34 ∷ []) (high (says 0) ∷ [])
    ∷ case (state_by reset_lane reset_lane 0x21000 0) 0 [] (pci_read 0x34 ∷ []) (high (says 0) ∷ [])
    ∷ case (state_by reset_lane reset_lane 0x44000 0) 0 [] (pci_read 0x34 ∷ []) (high (says 0) ∷ [])
    ∷ case (state_by reset_lane reset_lane 0x88000 0) 0 [] (pci_read 0x34 ∷ []) (high (says 0) ∷ [])
    ∷ case (state_by reset_lane reset_lane 0x200000 0x400) 0 [] (pci_write 0x28 4 ∷ write_cycle ∷ pci_write 0x38 0 ∷ pci_write 0x38 0x200000 ∷ []) (high ok ∷ high (refuses 11) ∷ high ok ∷ ok ∷ [])
    ∷ []

-- ---- the Add-On's own registers

abbrev pub addon_cases : List Example
addon_cases =
    -- AINT keeps the same bits as INTCSR, and is not INTCSR; part writes and part reads
    example
    (addon_write 0x38 0xFFFFFFFF ∷ addon_read 0x38 ∷ pci_read 0x38 ∷ step_by 3 0x38 1 0 ∷ addon_read 0x38 ∷ step_by 2 0x38 1 0 ∷ step_by 6 0 0 0 ∷ addon_read 0x38 ∷ pci_write 0x38 0xFFFFFFFF
    ∷ addon_read 0x38 ∷ [])
    (ok ∷ says 0xDF1F ∷ says 0 ∷ ok ∷ says 0xDF00 ∷ says 0xDF00 ∷ ok ∷ says 0 ∷ ok ∷ says 0 ∷ [])
    -- AGCSTS keeps nothing, and shows the FIFO from PCI above the one from the Add-On
    ∷ example
    (addon_write 0x3C 0xF1FFFFFF ∷ addon_read 0x3C ∷ pci_write 0x20 1 ∷ addon_read 0x3C ∷ addon_write 0x20 1 ∷ addon_write 0x20 2 ∷ addon_write 0x20 3 ∷ addon_write 0x20 4 ∷ addon_read 0x3C
    ∷ pci_read 0x3C ∷ pci_write 0x3C 0xF700 ∷ step_by 2 0x3C 2 0 ∷ step_by 2 0x3C 1 0 ∷ [])
    (ok ∷ says 0x34 ∷ ok ∷ says 0x14 ∷ ok ∷ ok ∷ ok ∷ ok ∷ says 0x12 ∷ says 0xD2 ∷ ok ∷ says 0x12 ∷ says 0x12 ∷ [])
    ∷ case (state_by (lane_by (replicate 8 0) 0 5) (lane_by (replicate 8 0) 0 6) 0 0) 0 [] (addon_read 0x3C ∷ pci_read 0x3C ∷ []) (says 0xB ∷ says 0x19 ∷ [])
    -- its clears: 26 the FIFO from PCI, 25 the one from the Add-On, 27 every mark; where their byte is enabled
    ∷ example
    (pci_write 0x20 1 ∷ addon_write 0x20 2 ∷ step_by 3 0x3C 7 0x06000000 ∷ step_by 3 0x3C 8 0x04000000 ∷ addon_read 0x3C ∷ addon_read 0x20 ∷ step_by 3 0x3C 8 0x02000000 ∷ pci_read 0x20 ∷ [])
    (ok ∷ ok ∷ ok ∷ ok ∷ says 0x30 ∷ refuses 8 ∷ ok ∷ refuses 8 ∷ [])
    ∷ example
    (pci_write 0x08 6 ∷ addon_write 0x14 7 ∷ step_by 3 0x3C 7 0x08000000 ∷ pci_read 0x34 ∷ step_by 3 0x3C 8 0x08000000 ∷ pci_read 0x34 ∷ addon_read 0x08 ∷ [])
    (turning 0xF00 ok ∷ turning 0xF00000 ok ∷ ok ∷ says 0xF00F00 ∷ ok ∷ says 0 ∷ says 6 ∷ [])
    -- outgoing mailbox 2 byte 1 is chosen: PCI fills it; a refill, another byte, the card's own read and a clear are no event
    ∷ example
    (addon_write 0x38 0x15 ∷ step_by 1 0x04 13 0 ∷ step_by 1 0x04 2 0 ∷ addon_read 0x38 ∷ step_by 3 0x38 4 0x10000 ∷ pci_write 0x04 0 ∷ addon_read 0x04 ∷ pci_write 0x3C 0x08000000 ∷ addon_read 0x38 ∷ [])
    (ok ∷ turning 0xD0 ok ∷ turning 0x20 (addon_high ok) ∷ addon_high (says 0x810015) ∷ ok ∷ ok ∷ turning 0xF0 ok ∷ ok ∷ says 0x15 ∷ [])
    -- incoming mailbox 4 byte 2: PCI empties it; a poll and the card's own write are no event, nor is one that is not enabled
    ∷ example
    (addon_write 0x38 0x1E00 ∷ addon_write 0x1C 0 ∷ pci_read 0x1C ∷ addon_read 0x38 ∷ step_by 3 0x38 4 0x20000 ∷ pci_read 0x1C ∷ addon_read 0x38 ∷ step_by 3 0x38 2 0xE00 ∷ addon_write 0x1C 0 ∷ pci_read 0x1C
    ∷ addon_read 0x38 ∷ [])
    (ok ∷ turning 0xF0000000 ok ∷ turning 0xF0000000 (addon_high ok) ∷ addon_high (says 0x821E00) ∷ ok ∷ ok ∷ says 0x1E00 ∷ ok ∷ turning 0xF0000000 ok ∷ turning 0xF0000000 ok
    ∷ says 0xE00 ∷ [])
    -- code 13 sets INTCSR 20 and AINT 21; each is cleared by its own side; AINT's stops no cycle
    ∷ example
    (nine_steps 0x4000 ++ write_cycle ∷ addon_read 0x38 ∷ pci_read 0x38 ∷ pci_write 0x38 0x00100000 ∷ pci_write 0x24 0 ∷ write_cycle ∷ step_by 3 0x38 4 0x00300000 ∷ addon_read 0x38 ∷ [])
    (ok ∷ ok ∷ ok ∷ ok ∷ absent 0x4000 ∷ both_high (says 0xA00000) ∷ both_high (says 0x900000) ∷ addon_high ok ∷ addon_high ok ∷ addon_high (moves 0 7 0xF) ∷ ok ∷ says 0x40000 ∷ [])
    -- cycles that use their counts up: 18 and 19, whose lines 14 and 15 enable
    ∷ case (with_aint 0x4000 (state_by (lane_by [] 4 4) (lane_by (7 ∷ []) 0 4) 0 0x4400)) 0 (5 ∷ 6 ∷ []) (read_cycle ∷ write_cycle ∷ addon_read 0x38 ∷ [])
    (moves 4 6 0xF ∷ addon_high (moves 0 7 0xF) ∷ addon_high (says 0x8C4000) ∷ [])
    -- a flag without its own enable is no line
    ∷ case (with_aint 0xE0F1F reset_state) 0 [] (pci_read 0x34 ∷ []) (says 0 ∷ [])
    ∷ case (with_aint 0xD1F0F reset_state) 0 [] (pci_read 0x34 ∷ []) (says 0 ∷ [])
    ∷ case (with_aint 0xB4F0F reset_state) 0 [] (pci_read 0x34 ∷ []) (says 0 ∷ [])
    ∷ case (with_aint 0x78F0F reset_state) 0 [] (pci_read 0x34 ∷ []) (says 0 ∷ [])
    ∷ case (with_aint 0x10010 reset_state) 0 [] (pci_read 0x34 ∷ []) (addon_high (says 0) ∷ [])
    ∷ case (with_aint 0x21000 reset_state) 0 [] (pci_read 0x34 ∷ []) (addon_high (says 0) ∷ [])
    ∷ case (with_aint 0x44000 reset_state) 0 [] (pci_read 0x34 ∷ []) (addon_high (says 0) ∷ [])
    ∷ case (with_aint 0x88000 reset_state) 0 [] (pci_read 0x34 ∷ []) (addon_high (says 0) ∷ [])
    ∷ []

-- ---- reads in part (Ask 6)

-- every register holds something, in more than one byte where it can; both lines are low
abbrev pub filled : State
filled =
    record {
      mail = 0x11223344 ∷ 0x55667788 ∷ 0x99AABBCC ∷ 0xDDEEFF01 ∷ 0x12345678 ∷ 0x9ABCDEF0 ∷ 0x13579BDF ∷ 0x2468ACE1 ∷ [];
      marks = 0xFFFFFFFF;
      from_pci = lane_by (1 ∷ []) 0x01020304 0x03050709;
      from_addon = lane_by (2 ∷ []) 0xF0E0D0C0 0x02040608;
      intcsr = 0x10F0F;
      mcsr = 0xF700;
      aint = 0x20F0E;
    }

-- one register, read with no byte enabled, with each alone, with two and with all: the same word, and no mark changes
abbrev pub in_part : ℕ → ℕ → ℕ → Example
in_part kind offset word = case filled 0 [] (map (λ enables. step_by kind offset enables 0) (0 ∷ 1 ∷ 2 ∷ 4 ∷ 8 ∷ 6 ∷ 15 ∷ [])) (replicate 7 (says word))

abbrev pub part_cases : List Example
part_cases =
    -- each side's own mailboxes
    in_part 0 0x00 0x11223344 ∷ in_part 0 0x0C 0xDDEEFF01 ∷ in_part 2 0x10 0x12345678 ∷ in_part 2 0x1C 0x2468ACE1
    -- addresses, counts and the status
    ∷ in_part 0 0x24 0xF0E0D0C0 ∷ in_part 0 0x28 0x02040608 ∷ in_part 0 0x2C 0x01020304 ∷ in_part 0 0x30 0x03050709
    ∷ in_part 0 0x34 0xFFFFFFFF ∷ in_part 2 0x34 0xFFFFFFFF
    -- INTCSR, MCSR, AINT and AGCSTS
    ∷ in_part 0 0x38 0x10F0F ∷ in_part 0 0x3C 0xF702 ∷ in_part 2 0x38 0x20F0E ∷ in_part 2 0x3C 0x10
    -- the other side's mailboxes: the whole word is shown each time, the enabled bytes alone are marked empty
    ∷ case filled 0 [] (map (λ enables. step_by 0 0x10 enables 0) (0 ∷ 1 ∷ 6 ∷ []) ++ step_by 0 0x34 8 0 ∷ step_by 0 0x10 15 0 ∷ step_by 0 0x34 0 0 ∷ [])
    (says 0x12345678 ∷ turning 0x10000 (says 0x12345678) ∷ turning 0x60000 (says 0x12345678) ∷ says 0xFFF8FFFF ∷ turning 0x80000 (says 0x12345678) ∷ says 0xFFF0FFFF ∷ [])
    ∷ case filled 0 [] (map (λ enables. step_by 2 0x0C enables 0) (0 ∷ 1 ∷ 6 ∷ []) ++ step_by 2 0x34 8 0 ∷ step_by 2 0x0C 15 0 ∷ step_by 2 0x34 0 0 ∷ [])
    (says 0xDDEEFF01 ∷ turning 0x1000 (says 0xDDEEFF01) ∷ turning 0x6000 (says 0xDDEEFF01) ∷ says 0xFFFF8FFF ∷ turning 0x8000 (says 0xDDEEFF01) ∷ says 0xFFFF0FFF ∷ [])
    -- a chosen byte that is shown and not enabled is no event, to INTCSR and to AINT; a line that is high is shown in bit 23
    ∷ example (pci_write 0x38 0x10 ∷ pci_write 0x00 0xA5C3 ∷ step_by 2 0x00 14 0 ∷ step_by 2 0x00 1 0 ∷ step_by 0 0x38 8 0 ∷ [])
    (ok ∷ turning 0xF ok ∷ turning 0xE (says 0xA5C3) ∷ turning 0x1 (high (says 0xA5C3)) ∷ high (says 0x810010) ∷ [])
    ∷ example (addon_write 0x38 0x1000 ∷ addon_write 0x10 0xA5C3 ∷ step_by 0 0x10 14 0 ∷ step_by 0 0x10 1 0 ∷ step_by 2 0x38 1 0 ∷ [])
    (ok ∷ turning 0xF0000 ok ∷ turning 0xE0000 (says 0xA5C3) ∷ turning 0x10000 (addon_high (says 0xA5C3)) ∷ addon_high (says 0x821000) ∷ [])
    -- what is refused shows nothing; a write takes its enabled bytes, and answers no data
    ∷ case filled 0 [] (step_by 0 0x20 7 0 ∷ step_by 2 0x20 0 0 ∷ step_by 0 0x00 16 0 ∷ step_by 2 0x24 1 0 ∷ pci_read 0x20 ∷ addon_read 0x20 ∷ [])
    (refuses 6 ∷ refuses 6 ∷ refuses 5 ∷ refuses 4 ∷ says 2 ∷ says 1 ∷ [])
    ∷ case filled 0 [] (step_by 1 0x00 2 0xAABBCCDD ∷ step_by 0 0x00 0 0 ∷ step_by 3 0x1C 8 0x11000000 ∷ step_by 2 0x1C 4 0 ∷ []) (ok ∷ says 0x1122CC44 ∷ ok ∷ says 0x1168ACE1 ∷ [])
    ∷ []

abbrev pub neighbours : List Example
neighbours = form_cases ++ window_cases ++ access_cases ++ mail_cases ++ cycle_cases ++ burst_cases ++ event_cases ++ addon_cases ++ part_cases

-- `neighbours_hold`: the machine meets these too
abbrev pub NeighboursHold : Type 0
NeighboursHold = MeetsTable run neighbours
