-- One step: the code, the answer, and the state and memory after it. For every state, memory, start and numbers.
use Rattle.std.specs.Prelude.{ℕ, false, cond, not, ◌&&◌, List, eqb, length, get_or}
use Rattle.machine.specs.Words.{bit, flag, byte_mask, mask, cleared, raised, shown, merged, written, only}
use Rattle.machine.specs.Sides.{Side, pci, addon, other, Party, side_of}
use Rattle.machine.specs.State.{State, lane, held, with_right, with_lanes, with_interrupts, reset_state}
use Rattle.machine.specs.Access.{Access, access_of, Kind, reading, writing, cycle, chip_reset, unknown, is_reset, cycles}
use Rattle.machine.specs.Offsets.{is_mailbox, mailbox, fifo_port, address_at, count_at, status_at, interrupts_at}
use Rattle.machine.specs.Mailboxes.{marks_at, changes, marks_after, mail_after}
use Rattle.machine.specs.Fifos.{front}
use Rattle.machine.specs.Window.{place_of, is_window_out_of_form}
use Rattle.machine.specs.Mcsr.{mcsr_after, fifo_status, mcsr_status, mcsr_read, agcsts_read}
use Rattle.machine.specs.Cycles.{low_enables, is_ready, cycle_word, stored, address_after, count_after, right_after, lane_after}
use Rattle.machine.specs.Interrupts.{interrupts, interrupts_written, outgoing_event, incoming_event, notified, interrupts_after, interrupts_aborted, line_of, interrupts_read}
use Rattle.machine.specs.Rights.{settled}
use Rattle.machine.specs.Codes.{done, state_out_of_form, no_memory_there, not_aframe_line}
use Rattle.machine.specs.Code.{code_of, is_out_of_form, is_unknown_offset, has_bad_enables, is_part_fifo_access, is_read_only_write, is_full_or_empty, is_transfer_off, is_count_zero, is_abort_standing, is_not_ready, is_no_memory}
use Rattle.machine.specs.declared.Step.{Step}
use Rattle.machine.specs.declared.Answer.{Answer}

-- ---- what is answered

-- an answer's address, data, enables and changed marks
pub record Reply : Type 0 where
  pub address : ℕ
  pub value : ℕ
  pub enables : ℕ
  pub changed : ℕ

abbrev pub nothing : Reply
nothing = record { address = 0; value = 0; enables = 0; changed = 0 }

abbrev pub showing : ℕ → ℕ → Reply
showing value changed = record { address = 0; value = value; enables = 0; changed = changed }

-- the control register of a side as it is read
abbrev pub control_read : Side → State → ℕ
control_read pci st = mcsr_read st
control_read addon st = agcsts_read st

-- The registers but the FIFO port, which is read apart. Mailboxes and status are the same ones to both sides, 38 and 3C each side's own.
-- By code 4 no other offset comes to the last.
unfoldable pub register : Side → State → ℕ → ℕ
register side st offset =
    cond (is_mailbox offset) (get_or st.mail (mailbox offset) 0)
    (cond (eqb offset (address_at addon)) st.from_addon.address
    (cond (eqb offset (count_at addon)) st.from_addon.count
    (cond (eqb offset (address_at pci)) st.from_pci.address
    (cond (eqb offset (count_at pci)) st.from_pci.count
    (cond (eqb offset status_at) st.marks
    (cond (eqb offset interrupts_at) (interrupts_read (interrupts side st))
    (control_read side st)))))))

-- a read: at the port the front word of the FIFO that the other side feeds; elsewhere the whole register, whatever the enables (Ask 6)
unfoldable pub read_value : Party → State → Access → ℕ
read_value party st x = cond (eqb x.offset fifo_port) (front (held (other (side_of party)) st)) (register (side_of party) st x.offset)

-- A done step: a read shows data, a cycle its address before the step, its word and the lowest n enables; writes and a reset nothing.
-- A read and a write tell which marks they changed (Ask 2).
unfoldable pub done_reply : Kind → State → ℕ → List ℕ → Access → Reply
done_reply (reading party) st start memory x = showing (read_value party st x) (changes x st.marks)
done_reply (writing party) st start memory x = showing 0 (changes x st.marks)
done_reply (cycle side) st start memory x =
    let l = lane side st in
    record { address = l.address; value = cycle_word side st start memory; enables = low_enables l.count; changed = 0 }
done_reply chip_reset st start memory x = nothing
done_reply unknown st start memory x = nothing

-- code 13: of the three numbers only the address, the one at which there is no memory
unfoldable pub aborted_reply : Kind → State → Reply
aborted_reply (reading party) st = nothing
aborted_reply (writing party) st = nothing
aborted_reply (cycle side) st = record { address = (lane side st).address; value = 0; enables = 0; changed = 0 }
aborted_reply chip_reset st = nothing
aborted_reply unknown st = nothing

-- any other code answers nothing besides itself and the line
unfoldable pub reply_of : State → ℕ → List ℕ → Access → ℕ → Reply
reply_of st start memory x code =
    cond (eqb code done) (done_reply x.kind st start memory x) (cond (eqb code no_memory_there) (aborted_reply x.kind st) nothing)

-- the lines of the state that is left; for code 1, whose state cannot be trusted, they are low
unfoldable pub answered : State → ℕ → Reply → Answer
answered after code r =
    record {
      code = code;
      address = r.address;
      value = r.value;
      enables = r.enables;
      line = not (eqb code state_out_of_form) && line_of after.intcsr;
      addon_line = not (eqb code state_out_of_form) && line_of after.aint;
      changed = r.changed;
    }

-- the answer to a line of text that is no frame: no step is made
unfoldable pub not_aframe : State → Answer
not_aframe st = answered st not_aframe_line nothing

-- ---- what is left

-- each register by its own rule
unfoldable pub moved_state : State → Access → ℕ → State
moved_state st x word =
    record {
      mail = mail_after x st.mail;
      marks = marks_after x st.marks;
      from_pci = lane_after pci x st.mcsr word st.from_pci;
      from_addon = lane_after addon x st.mcsr word st.from_addon;
      intcsr = interrupts_after pci x.kind st x;
      mcsr = mcsr_after x st.mcsr;
      aint = interrupts_after addon x.kind st x;
    }

-- a done step that is no reset; last, rights end that have met an end (Ask 5)
unfoldable pub done_state : State → Access → ℕ → State
done_state st x word = settled (moved_state st x word)

-- code 13: the abort flag of either interrupt register goes up, which ends both rights (Ask 5); all else stays
unfoldable pub aborted_state : State → State
aborted_state st = with_interrupts interrupts_aborted (with_lanes (λ side l. with_right false l) st)

-- a refusal by any code but 13 leaves the state as it was
unfoldable pub state_after : State → Access → ℕ → ℕ → State
state_after st x code word =
    cond (eqb code done) (cond (is_reset x.kind) reset_state (done_state st x word))
    (cond (eqb code no_memory_there) (aborted_state st) st)

-- only a done write cycle stores; a reset leaves host memory as it is
unfoldable pub memory_after : State → ℕ → List ℕ → Access → ℕ → List ℕ
memory_after st start memory x code = cond (eqb code done && cycles addon x.kind) (stored st start memory) memory

-- ---- the step

pub record Outcome : Type 0 where
  pub state : State
  pub memory : List ℕ
  pub answer : Answer

-- what a code brings about
unfoldable pub respond : State → ℕ → List ℕ → Access → ℕ → Outcome
respond st start memory x code =
    let r = reply_of st start memory x code in
    let after = state_after st x code r.value in
    record { state = after; memory = memory_after st start memory x code; answer = answered after code r }

unfoldable pub step_of : State → ℕ → List ℕ → Step → Outcome
step_of st start memory s = let x = access_of s in respond st start memory x (code_of st start (length memory) x)

-- a proof that says `unfolding computing` computes a step of given numbers: this opens every rule
unfoldable pub computing : ℕ
unfolding bit flag byte_mask mask cleared raised shown merged written only marks_at changes marks_after mail_after place_of is_window_out_of_form mcsr_after fifo_status mcsr_status mcsr_read agcsts_read low_enables is_ready cycle_word stored address_after count_after right_after interrupts_written outgoing_event incoming_event notified interrupts_after interrupts_aborted line_of interrupts_read settled code_of is_out_of_form is_unknown_offset has_bad_enables is_part_fifo_access is_read_only_write is_full_or_empty is_transfer_off is_count_zero is_abort_standing is_not_ready is_no_memory register read_value done_reply aborted_reply reply_of answered not_aframe moved_state done_state aborted_state state_after memory_after respond step_of
computing = 0
