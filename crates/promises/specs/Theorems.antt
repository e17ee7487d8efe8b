-- What is proved of the machine: a statement for each promise. The proofs are in proofs/, each under the name that stands beside its statement.
use Rattle.std.specs.Prelude.{ℕ, ◌/◌, ◌%◌, ◌≤◌, ◌<◌, ◌≡◌, true, false, cond, not, ◌&&◌, ◌||◌, List, ◌++◌, eqb, length, get_or}
use Rattle.machine.specs.Words.{bit}
use Rattle.machine.specs.Sides.{Side}
use Rattle.machine.specs.State.{State, held, with_right, with_lanes, with_interrupts, reset_state}
use Rattle.machine.specs.Interrupts.{interrupts, line_of}
use Rattle.machine.specs.Code.{is_out_of_form}
use Rattle.machine.specs.Step.{step_of, not_aframe}
use Rattle.machine.specs.Event.{Event, logged_answers}
use Rattle.machine.specs.Run.{Rule, run_of, run}
use Rattle.promises.specs.Account.{tally, latest, was_write, byte_of, last_stored, AllAlike, Every, NoClear, SameAccepted}
use Rattle.machine.specs.declared.Step.{Step}
use Rattle.machine.specs.declared.Answer.{Answer}

-- ---- demand 1: every step, on every state, memory and set of numbers; which code it answers is in `CodeTable`

-- an answer that only refuses: nothing but the code, and the lines of the state (low for code 1)
abbrev pub refusal : ℕ → State → Answer
refusal code st = record { code = code; address = 0; value = 0; enables = 0; line = cond (eqb code 1) false (line_of st.intcsr); addon_line = cond (eqb code 1) false (line_of st.aint); changed = 0 }

-- `refused`: with a code other than 0 and 13 neither the controller nor the memory changes, and nothing but the code and the lines is answered
abbrev pub Refused : Type 0
Refused =
    (st : State) (start : ℕ) (memory : List ℕ) (s : Step)
    → (let o = step_of st start memory s in let code = o.answer.code in
    eqb code 0 ≡ false → eqb code 13 ≡ false → o ≡ record { state = st; memory = memory; answer = refusal code st })

-- `not_a_frame_answer`: a line that is no frame is answered like a refusal, with code 14
abbrev pub NotAFrameAnswer : Type 0
NotAFrameAnswer = (st : State) → not_aframe st ≡ refusal 14 st

-- INTCSR has bit 20 besides, AINT bit 21; neither lane has a right (Ask 5), and all else is as it was
pub record AbortOnly (st after : State) : Type 0 where
  pub intcsr : (k : ℕ) → bit after.intcsr k ≡ (bit st.intcsr k || eqb k 20)
  pub aint : (k : ℕ) → bit after.aint k ≡ (bit st.aint k || eqb k 21)
  pub others : after ≡ with_interrupts (λ side i. interrupts side after) (with_lanes (λ side l. with_right false l) st)

-- the address of a cycle: the write address for kind 4, the read address for kind 5
abbrev pub cycle_address : State → Step → ℕ
cycle_address st s = cond (eqb s.kind 4) st.from_addon.address (cond (eqb s.kind 5) st.from_pci.address 0)

-- `aborted`: by code 13 flag 20 of INTCSR and flag 21 of AINT go up, both rights end and nothing else changes; it answers the address of the cycle, no data, no enables,
-- and both lines 1
abbrev pub Aborted : Type 0
Aborted =
    (st : State) (start : ℕ) (memory : List ℕ) (s : Step)
    → (let o = step_of st start memory s in
    o.answer.code ≡ 13
    → AbortOnly st o.state
    × ((o.memory ≡ memory) × (o.answer ≡ record { code = 13; address = cycle_address st s; value = 0; enables = 0; line = true; addon_line = true; changed = 0 })))

-- `only_aborts`: a step sets INTCSR bit 20, which was clear, exactly if it answers 13; it sets AINT bit 21 exactly if that was clear and it answers 13
pub record AbortsOnlyBy (code : ℕ) (st after : State) : Type 0 where
  pub intcsr : (not (bit st.intcsr 20) && bit after.intcsr 20) ≡ eqb code 13
  pub aint : (not (bit st.aint 21) && bit after.aint 21) ≡ (not (bit st.aint 21) && eqb code 13)

abbrev pub OnlyAborts : Type 0
OnlyAborts =
    (st : State) (start : ℕ) (memory : List ℕ) (s : Step)
    → (let o = step_of st start memory s in AbortsOnlyBy o.answer.code st o.state)

-- ---- form

-- `form_kept`: a step leaves a state in form in form
abbrev pub FormKept : Type 0
FormKept =
    (st : State) (start : ℕ) (memory : List ℕ) (s : Step) → is_out_of_form st ≡ false → is_out_of_form (step_of st start memory s).state ≡ false

-- `never_out_of_form`: from reset no step ever answers 1
abbrev pub NeverOutOfForm : Type 0
NeverOutOfForm =
    (start : ℕ) (memory : List ℕ) (steps : List Step) → Every (λ (e : Event). eqb e.answer.code 1 ≡ false) (run reset_state start memory steps).events

-- ---- demand 3, and what the mailbox bytes hold: from reset, for any list of steps, any start and any memory

-- `fifo_account`: of each FIFO, the words let in since it was last emptied are the words handed out since, then the words still held, in order
-- (a read cycle's word is the one that it answers); said of any rule for one step, so that it can be asked of worthless ones too
abbrev pub KeepsFifoAccount : Rule → Type 0
KeepsFifoAccount rule =
    (side : Side) (start : ℕ) (memory : List ℕ) (steps : List Step)
    → (let r = run_of rule reset_state start memory steps in let t = tally side r.events in t.let_in ≡ t.handed_out ++ held side r.state)

abbrev pub FifoAccount : Type 0
FifoAccount = KeepsFifoAccount step_of

-- `fifo_room`: and no FIFO ever holds more than eight words
abbrev pub FifoRoom : Type 0
FifoRoom = (side : Side) (start : ℕ) (memory : List ℕ) (steps : List Step) → length (held side (run reset_state start memory steps).state) ≤ 8

-- `mail_account`: of the thirty-two mailbox bytes, one is full exactly if the latest of its owner's writes, the other side's reads, mailbox clears and resets,
-- all of them done, was a write
abbrev pub MailAccount : Type 0
MailAccount =
    (k : ℕ) → k < 32 → (start : ℕ) (memory : List ℕ) (steps : List Step)
    → (let r = run reset_state start memory steps in bit r.state.marks k ≡ was_write (latest k r.events))

-- `mail_bytes`: byte k % 4 of mailbox word k / 4 is that byte of the data of the latest of its owner's writes with that byte enabled, done since the last
-- done reset, and zero if there is none. So by `read_answers` a mailbox shows the bytes last stored in it, whether they are full or empty
abbrev pub MailBytes : Type 0
MailBytes =
    (k : ℕ) → k < 32 → (start : ℕ) (memory : List ℕ) (steps : List Step)
    → (let r = run reset_state start memory steps in byte_of (k % 4) (get_or r.state.mail (k / 4) 0) ≡ last_stored k r.events)

-- `two_runs_since`: two runs that differ at most in the data of FIFO port writes, with the same answers, as the log shows them, and the same words left in a FIFO,
-- let the same words into it since its last clear or reset
abbrev pub TwoRunsSince : Type 0
TwoRunsSince =
    (side : Side) (start : ℕ) (memory : List ℕ) (ss ts : List Step) → AllAlike ss ts
    → (let r = run reset_state start memory ss in let q = run reset_state start memory ts in
    logged_answers r.events ≡ logged_answers q.events → held side r.state ≡ held side q.state → (tally side r.events).let_in ≡ (tally side q.events).let_in)

-- `two_runs`: with no clear and no reset done, and the words left in both FIFOs the same, every accepted word agreed, event by event
abbrev pub TwoRuns : Type 0
TwoRuns =
    (start : ℕ) (memory : List ℕ) (ss ts : List Step) → AllAlike ss ts
    → (let r = run reset_state start memory ss in let q = run reset_state start memory ts in
    logged_answers r.events ≡ logged_answers q.events → ((side : Side) → held side r.state ≡ held side q.state)
    → ((side : Side) → NoClear side r.events) → (side : Side) → SameAccepted side r.events q.events)
