-- "32-bit data", registers and words: the machine's numbers have no bound, and here it is said when they are below 2^32. A controller's always are, and so
-- is what a frame says.
use Rattle.std.specs.Prelude.{ℕ, ◌<◌, ◌^◌, ◌≡◌, true, List, [], ◌∷◌}
use Rattle.machine.specs.State.{Lane, State, reset_state}
use Rattle.machine.specs.Step.{Outcome, step_of, not_aframe}
use Rattle.machine.specs.Event.{Event}
use Rattle.machine.specs.Run.{RunOutcome, run}
use Rattle.promises.specs.Account.{Every}
use Rattle.promises.specs.Readings.{is_one_of}
use Rattle.promises.specs.CodeTable.{step_codes}
use Rattle.machine.specs.declared.Step.{Step}
use Rattle.machine.specs.declared.Answer.{Answer}

-- each number of a list is below a bound
abbrev pub AllBelow : ℕ → List ℕ → Type 0
AllBelow bound [] = Unit {0}
AllBelow bound (x ∷ xs) = (x < bound) × AllBelow bound xs

-- words of 32 bits, as memory, FIFOs and mailboxes have them
abbrev pub WordsFit : List ℕ → Type 0
WordsFit words = AllBelow (2 ^ 32) words

pub record LaneFits (l : Lane) : Type 0 where
  pub words : WordsFit l.words
  pub address : l.address < 2 ^ 32
  pub count : l.count < 2 ^ 32

pub record StateFits (st : State) : Type 0 where
  pub mail : WordsFit st.mail
  pub marks : st.marks < 2 ^ 32
  pub from_pci : LaneFits st.from_pci
  pub from_addon : LaneFits st.from_addon
  pub intcsr : st.intcsr < 2 ^ 32
  pub mcsr : st.mcsr < 2 ^ 32
  pub aint : st.aint < 2 ^ 32

-- the codes of answers: those to a step, and 14 to a line that is no frame
abbrev pub answer_codes : List ℕ
answer_codes = 14 ∷ step_codes

-- Frames and the log: two digits hold the code of an answer, eight its address, eight its data, one its enables; its changed marks are bits of a register
pub record AnswerFits (a : Answer) : Type 0 where
  pub code : is_one_of answer_codes a.code ≡ true
  pub address : a.address < 2 ^ 32
  pub value : a.value < 2 ^ 32
  pub enables : a.enables < 16
  pub changed : a.changed < 2 ^ 32

-- `reset_fits`
abbrev pub ResetFits : Type 0
ResetFits = StateFits reset_state

-- `fit_kept`: a step whose data has 32 bits, on a state and a memory that fit, leaves such ones, and its answer fits
pub record OutcomeFits (o : Outcome) : Type 0 where
  pub state : StateFits o.state
  pub memory : WordsFit o.memory
  pub answer : AnswerFits o.answer

abbrev pub FitKept : Type 0
FitKept = (st : State) (start : ℕ) (memory : List ℕ) (s : Step) → StateFits st → WordsFit memory → s.value < 2 ^ 32 → OutcomeFits (step_of st start memory s)

-- the data of each step has 32 bits
abbrev pub StepsFit : List Step → Type 0
StepsFit [] = Unit {0}
StepsFit (s ∷ ss) = (s.value < 2 ^ 32) × StepsFit ss

-- `run_fits`: so in a run from a state and a memory that fit, as from reset over zero words, all numbers stay below 2^32, and every answer fits
pub record RunFits (r : RunOutcome) : Type 0 where
  pub state : StateFits r.state
  pub memory : WordsFit r.memory
  pub events : Every (λ (e : Event). AnswerFits e.answer) r.events

abbrev pub RunsFit : Type 0
RunsFit = (st : State) (start : ℕ) (memory : List ℕ) (steps : List Step) → StateFits st → WordsFit memory → StepsFit steps → RunFits (run st start memory steps)

-- an answer that is given: to such a step, or to a line of text that is no frame
pub data Given : Answer → Type 0 where
  to_step :
      (st : State) (start : ℕ) (memory : List ℕ) (s : Step) → StateFits st → WordsFit memory → s.value < 2 ^ 32 → Given (step_of st start memory s).answer
  to_no_frame : (st : State) → Given (not_aframe st)

-- `given_fits`: every one of them fits
abbrev pub GivenFits : Type 0
GivenFits = (a : Answer) → Given a → AnswerFits a
