-- Numbers a step can answer: the test of each code, and which of those that apply is given.
use Rattle.std.specs.Prelude.{ℕ, ◌%◌, Bool, false, cond, not, ◌&&◌, ◌||◌, List, [], ◌∷◌, ◌++◌, eqb, ltb, length}
use Rattle.machine.specs.Words.{bit, any_of, only}
use Rattle.machine.specs.Sides.{Side, pci, addon, other, either, party_of}
use Rattle.machine.specs.State.{State, Lane, lane, held}
use Rattle.machine.specs.Access.{Access, is_access, is_on, is_write_on, is_unknown, cycles, reads, writes}
use Rattle.machine.specs.Offsets.{in_table, is_read_only, fifo_port}
use Rattle.machine.specs.Fifos.{depth, is_empty, is_full}
use Rattle.machine.specs.Window.{inside, is_window_out_of_form}
use Rattle.machine.specs.Mcsr.{mcsr_kept, enable_bit}
use Rattle.machine.specs.Cycles.{is_ready}
use Rattle.machine.specs.Interrupts.{interrupts_held, abort_in}
use Rattle.machine.specs.Rights.{ended}
use Rattle.machine.specs.Codes.{done, state_out_of_form, window_out_of_form, unknown_step, unknown_offset, bad_enables, part_fifo_access, read_only_register, fifo_full_or_empty, transfer_off, count_is_zero, abort_stands, fifo_not_ready, no_memory_there}

-- 1, of a lane: more words than fit in, an address that is no multiple of 4, a count of more than 26 bits, a right together with one of its ends (Ask 5)
abbrev pub lane_faults : Side → Lane → ℕ → ℕ → List Bool
lane_faults side l mcsr intcsr =
    ltb depth (length l.words) ∷ not (eqb (l.address % 4) 0) ∷ ltb 0x03FF_FFFF l.count ∷ (l.right && ended side l mcsr intcsr) ∷ []

-- 1, of all: either lane, a bit in INTCSR that is neither kept nor a flag, a bit in MCSR that is not kept, a bit in AINT that is neither kept nor a flag
abbrev pub faults : State → List Bool
faults st =
    any_of (lane_faults pci st.from_pci st.mcsr st.intcsr) ∷ any_of (lane_faults addon st.from_addon st.mcsr st.intcsr) ∷ not (only (interrupts_held pci) st.intcsr) ∷ not (only mcsr_kept st.mcsr)
    ∷ not (only (interrupts_held addon) st.aint) ∷ []

unfoldable pub is_out_of_form : State → Bool
is_out_of_form st = any_of (faults st)

-- 4: not in the table of the side on which it reads or writes
unfoldable pub is_unknown_offset : Access → Bool
is_unknown_offset x = either (λ side. is_on side x.kind && not (in_table side x.offset))

-- 5: enables above 15
unfoldable pub has_bad_enables : Access → Bool
has_bad_enables x = is_access x.kind && ltb 15 x.enables

-- 6: the FIFO port, enables not 15
unfoldable pub is_part_fifo_access : Access → Bool
is_part_fifo_access x = is_access x.kind && eqb x.offset fifo_port && not (eqb x.enables 15)

-- 7: a write on a side to a register that is read-only there
unfoldable pub is_read_only_write : Access → Bool
is_read_only_write x = either (λ side. is_write_on side x.kind && is_read_only side x.offset)

-- 8: a port write when its FIFO is full, a port read when its FIFO is empty; on the Add-On bus this is (house)
abbrev pub is_port_stuck : Side → State → Access → Bool
is_port_stuck side st x = writes (party_of side) fifo_port x && is_full (held side st) || reads (party_of (other side)) fifo_port x && is_empty (held side st)

unfoldable pub is_full_or_empty : State → Access → Bool
is_full_or_empty st x = either (λ side. is_port_stuck side st x)

-- 9: the cycle's enable bit is clear
unfoldable pub is_transfer_off : State → Access → Bool
is_transfer_off st x = either (λ side. cycles side x.kind && not (bit st.mcsr (enable_bit side)))

-- 10: its count is zero
unfoldable pub is_count_zero : State → Access → Bool
is_count_zero st x = either (λ side. cycles side x.kind && eqb (lane side st).count 0)

-- 11: an abort stands
unfoldable pub is_abort_standing : State → Access → Bool
is_abort_standing st x = either (λ side. cycles side x.kind && abort_in st.intcsr)

-- 12: its FIFO is not ready
unfoldable pub is_not_ready : State → Access → Bool
is_not_ready st x = either (λ side. cycles side x.kind && not (is_ready side st))

-- 13: its address is outside the memory
unfoldable pub is_no_memory : State → ℕ → ℕ → Access → Bool
is_no_memory st start words x = either (λ side. cycles side x.kind && not (inside start words (lane side st).address))

-- The codes, each with its test, in the order of the table: 1 to 8, then those of cycles alone, 9 to 13.
abbrev pub step_tests : State → ℕ → ℕ → Access → List (ℕ × Bool)
step_tests st start words x =
    (state_out_of_form, is_out_of_form st) ∷ (window_out_of_form, is_window_out_of_form start words) ∷ (unknown_step, is_unknown x.kind)
    ∷ (unknown_offset, is_unknown_offset x) ∷ (bad_enables, has_bad_enables x) ∷ (part_fifo_access, is_part_fifo_access x) ∷ (read_only_register, is_read_only_write x)
    ∷ (fifo_full_or_empty, is_full_or_empty st x) ∷ []

abbrev pub cycle_tests : State → ℕ → ℕ → Access → List (ℕ × Bool)
cycle_tests st start words x =
    (transfer_off, is_transfer_off st x) ∷ (count_is_zero, is_count_zero st x) ∷ (abort_stands, is_abort_standing st x) ∷ (fifo_not_ready, is_not_ready st x)
    ∷ (no_memory_there, is_no_memory st start words x) ∷ []

abbrev pub tests : State → ℕ → ℕ → Access → List (ℕ × Bool)
tests st start words x = step_tests st start words x ++ cycle_tests st start words x

-- the code of the first test that applies, or done
abbrev pub first_of : List (ℕ × Bool) → ℕ
first_of [] = done
first_of (t ∷ ts) = cond t.1 t.0 (first_of ts)

-- the test of a code in a list of tests
abbrev pub test_of : ℕ → List (ℕ × Bool) → Bool
test_of code [] = false
test_of code (t ∷ ts) = cond (eqb t.0 code) t.1 (test_of code ts)

-- of all codes that apply the first, in the order of the tests; for a memory of so many words
unfoldable pub code_of : State → ℕ → ℕ → Access → ℕ
code_of st start words x = first_of (tests st start words x)
