-- What a step on words promises, whole and in parts: of a kind, of a clear, by a code of form that it is told.
use Rattle.std.specs.Int.Bits.{bit_xor}
use Rattle.std.specs.Prelude.{ℕ, ◌≡◌, true, false, cond, ◌||◌, List, [], ◌∷◌, ◌++◌, eqb, length, drop}
use Rattle.machine.specs.Sides.{Side, pci, addon, same_side}
use Rattle.machine.specs.State.{State, Lane, lane, with_lanes, with_interrupts}
use Rattle.machine.specs.Access.{Access, access_of}
use Rattle.machine.specs.Commands.{clears_marks, clears_fifo}
use Rattle.machine.specs.Mailboxes.{mail_after}
use Rattle.machine.specs.Interrupts.{interrupts_written, notified, count_bit}
use Rattle.machine.specs.Mcsr.{four_bit, mcsr_after}
use Rattle.machine.specs.Cycles.{address_kept, count_kept, next_address, count_left, runs_out}
use Rattle.machine.specs.Offsets.{address_at, count_at}
use Rattle.machine.specs.Words.{bit, raised, written}
use Rattle.machine.specs.Rights.{settled}
use Rattle.machine.specs.Code.{tests, first_of}
use Rattle.machine.specs.Step.{Outcome, nothing, answered, respond, aborted_state, step_of}
use Rattle.machine.specs.declared.Step.{Step}
use Rattle.machine.specs.declared.Answer.{Answer}
use Rattle.bank.specs.Words.{controller_words, state_of_words, has_rights}
use Rattle.refusal.specs.Codes.{form_code, access_code, cycle_code, cycle_by}

-- the outcome that words, a memory and an answer stand for
abbrev pub outcome_in : List ℕ → List ℕ → Answer → Outcome
outcome_in words memory a = record { state = state_of_words words; memory = memory; answer = a }

-- an outcome whose rights are not looked at yet, with those ended, if it is done, that met an end
unfoldable pub settled_outcome : Outcome → Outcome
settled_outcome o = record { state = cond (eqb o.answer.code 0) (settled o.state) o.state; memory = o.memory; answer = o.answer }

-- ---- what stays

-- rights that are 0 or 1 are so again, and by any code but 0 and 13 every word is as it was
pub record Kept (words : List ℕ) (a : Answer) (words' : List ℕ) : Type 0 where
  pub rights : has_rights words ≡ true → has_rights words' ≡ true
  pub refused : eqb a.code 0 ≡ false → eqb a.code 13 ≡ false → words' ≡ words

-- ---- the clears

-- words after which the state is what a rule makes of it
pub record Stored (rule : State → State) (words words' : List ℕ) : Type 0 where
  pub state : state_of_words words' ≡ rule (state_of_words words)
  pub rights : has_rights words ≡ true → has_rights words' ≡ true

abbrev pub marks_cleared : Access → State → State
marks_cleared x st = record { mail = st.mail; marks = cond (clears_marks x) 0 st.marks; from_pci = st.from_pci; from_addon = st.from_addon; intcsr = st.intcsr; mcsr = st.mcsr; aint = st.aint }

abbrev pub cleared_lane : Side → Access → Lane → Lane
cleared_lane side x l = record { words = cond (clears_fifo side x) [] l.words; address = l.address; count = l.count; right = cond (clears_fifo side x) false l.right }

-- an owner's write stores in its mailbox
abbrev pub mail_stored : Access → State → State
mail_stored x st = record { mail = mail_after x st.mail; marks = st.marks; from_pci = st.from_pci; from_addon = st.from_addon; intcsr = st.intcsr; mcsr = st.mcsr; aint = st.aint }

-- ---- what a side undergoes

-- its lane, by a rule
abbrev pub lane_changed : Side → (Lane → Lane) → State → State
lane_changed side new st = with_lanes (λ of l. cond (same_side side of) (new l) l) st

-- the front word leaves; a word comes in
abbrev pub without_front : Lane → Lane
without_front l = record { words = drop 1 l.words; address = l.address; count = l.count; right = l.right }

abbrev pub with_last : ℕ → Lane → Lane
with_last x l = record { words = l.words ++ x ∷ []; address = l.address; count = l.count; right = l.right }

-- its address and its count, as a write leaves them
abbrev pub registers_written : Side → Access → Lane → Lane
registers_written side x l =
    record {
      words = l.words;
      address = cond (eqb x.offset (address_at side)) (written address_kept l.address x.value x.enables) l.address;
      count = cond (eqb x.offset (count_at side)) (written count_kept l.count x.value x.enables) l.count;
      right = l.right;
    }

-- its interrupt register, written
abbrev pub interrupts_stored : Side → Access → State → State
interrupts_stored side x st = with_interrupts (λ of i. cond (same_side side of) (interrupts_written side i x.value x.enables) i) st

-- marks change, of which it is told
abbrev pub event_told : Side → ℕ → State → State
event_told side changed st =
    with_interrupts (λ of i. cond (same_side side of) (notified i changed) i)
    (record { mail = st.mail; marks = bit_xor st.marks changed; from_pci = st.from_pci; from_addon = st.from_addon; intcsr = st.intcsr; mcsr = st.mcsr; aint = st.aint })

-- MCSR, written; MCSR or AGCSTS, with what it clears
abbrev pub mcsr_stored : Access → State → State
mcsr_stored x st = record { mail = st.mail; marks = st.marks; from_pci = st.from_pci; from_addon = st.from_addon; intcsr = st.intcsr; mcsr = mcsr_after x st.mcsr; aint = st.aint }

abbrev pub controlled : Access → State → State
controlled x st = lane_changed addon (cleared_lane addon x) (lane_changed pci (cleared_lane pci x) (marks_cleared x (mcsr_stored x st)))

-- a cycle on its lane, but for the word that it moves: the flags, the next address, the count left, and the right, had or asked for
abbrev pub passed : Side → State → State
passed side st =
    with_interrupts (λ of i. raised i (runs_out (lane side st).count) (count_bit side))
    (lane_changed side (λ l. record { words = l.words; address = next_address l.address; count = count_left l.count; right = l.right || bit st.mcsr (four_bit side) }) st)

-- ---- the kinds

-- what a code brings about, a read or a write, which has nothing to do with the memory
abbrev pub Answered : ℕ → Step → List ℕ → Answer → List ℕ → Type 0
Answered code s words a words' =
    ((start : ℕ) (memory : List ℕ) → settled_outcome (outcome_in words' memory a) ≡ respond (state_of_words words) start memory (access_of s) code) × Kept words a words'

-- by the code that it answers; where that is known to be done
abbrev pub Accessed : Step → List ℕ → Answer → List ℕ → Type 0
Accessed s words a words' = Answered (access_code (state_of_words words) (access_of s)) s words a words'

abbrev pub Done : Step → List ℕ → Answer → List ℕ → Type 0
Done s words a words' = Answered 0 s words a words'

-- a cycle, which ignores offset, enables and data
abbrev pub Cycled : Side → List ℕ → ℕ → List ℕ → Answer → List ℕ → List ℕ → Type 0
Cycled side words start memory a words' memory' =
    ((offset enables value : ℕ)
    → settled_outcome (outcome_in words' memory' a) ≡ respond (state_of_words words) start memory (cycle_by side offset enables value) (cycle_code side (state_of_words words) start (length memory)))
    × Kept words a words'

-- code 13
pub record Aborted (words : List ℕ) (address : ℕ) (a : Answer) (words' : List ℕ) : Type 0 where
  pub state : state_of_words words' ≡ aborted_state (state_of_words words)
  pub answer : a ≡ answered (aborted_state (state_of_words words)) 13 (record { address = address; value = 0; enables = 0; changed = 0 })
  pub rights : has_rights words ≡ true → has_rights words' ≡ true

-- ---- the step

-- the tests from code 3 on, if done is told; else the number that is told, and nothing changes
unfoldable pub told_step : ℕ → State → ℕ → List ℕ → Step → Outcome
told_step form st start memory s =
    cond (eqb form 0) (respond st start memory (access_of s) (first_of (drop 2 (tests st start (length memory) (access_of s)))))
    (record { state = st; memory = memory; answer = answered st form nothing })

-- of any kind, before rights end
abbrev pub Kind : List ℕ → ℕ → List ℕ → Step → Answer → List ℕ → List ℕ → Type 0
Kind words start memory s a words' memory' = (settled_outcome (outcome_in words' memory' a) ≡ told_step 0 (state_of_words words) start memory s) × Kept words a words'

-- rights have ended, if the code is done
pub record Settled (code : ℕ) (words words' : List ℕ) : Type 0 where
  pub state : state_of_words words' ≡ cond (eqb code 0) (settled (state_of_words words)) (state_of_words words)
  pub rights : has_rights words ≡ true → has_rights words' ≡ true
  pub refused : eqb code 0 ≡ false → words' ≡ words

-- the outcome is that of the code of form it is told; another number of words is answered by code 1, and nothing changes
pub record InWords (words memory : List ℕ) (start form : ℕ) (s : Step) (a : Answer) (words' memory' : List ℕ) : Type 0 where
  pub outcome : length words ≡ controller_words → outcome_in words' memory' a ≡ told_step form (state_of_words words) start memory s
  pub kept : Kept words a words'
  pub refused : (length words ≡ controller_words → ⊥) → (a ≡ answered (state_of_words words) 1 nothing) × ((words' ≡ words) × (memory' ≡ memory))

-- `told_rightly`: told the code of form that applies, it is the machine's step
abbrev pub ToldRightly : Type 0
ToldRightly = (st : State) (start : ℕ) (memory : List ℕ) (s : Step) → told_step (form_code st start (length memory)) st start memory s ≡ step_of st start memory s
