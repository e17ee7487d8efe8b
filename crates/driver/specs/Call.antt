-- The C call for one step, on a controller that stands as words in the caller's memory: what it returns and leaves.
use Rattle.std.specs.Prelude.{ℕ, ◌≡◌, true, false, cond, List, [], ◌∷◌, map, eqb, ℤ, pos, negsuc, length, replicate}
use Rattle.machine.specs.State.{State, reset_state}
use Rattle.machine.specs.Codes.{state_out_of_form}
use Rattle.machine.specs.Step.{Outcome, nothing, answered, step_of}
use Rattle.machine.specs.Event.{Event}
use Rattle.machine.specs.Run.{RunOutcome, run}
use Rattle.machine.specs.declared.Step.{Step}
use Rattle.machine.specs.declared.Answer.{Answer}
use Rattle.promises.specs.Theorems.{AbortOnly}
use Rattle.promises.specs.Readings.{is_one_of}
use Rattle.promises.specs.CodeTable.{step_codes}
use Rattle.bank.specs.Words.{one_if, controller_words, state_of_words, is_controller}
use Rattle.refusal.specs.Codes.{form_code}
use Rattle.step.specs.Parts.{outcome_in}

-- words that stand for no controller: code 1, and nothing changes
abbrev pub no_controller : List ℕ → List ℕ → Outcome
no_controller words memory = outcome_in words memory (answered (state_of_words words) state_out_of_form nothing)

-- the machine's step, if the words stand for a controller
unfoldable pub step_of_words : List ℕ → ℕ → List ℕ → Step → Outcome
step_of_words words start memory s = cond (is_controller words) (step_of (state_of_words words) start memory s) (no_controller words memory)

-- the code of form that it is told: 1 for words that stand for none
unfoldable pub form_of_words : List ℕ → ℕ → ℕ → ℕ
form_of_words words start count = cond (is_controller words) (form_code (state_of_words words) start count) state_out_of_form

-- an answer as words: code, address, data, enables, the host's line, the card's, the marks that changed
abbrev pub answer_words : ℕ
answer_words = 7

unfoldable pub words_of_answer : Answer → List ℕ
words_of_answer a = a.code ∷ a.address ∷ a.value ∷ a.enables ∷ one_if a.line ∷ one_if a.addon_line ∷ a.changed ∷ []

-- the outcome of a step on words, as the call tells it: the code is returned, and the answer is words too
pub record Told (o : Outcome) (words : List ℕ) (r : ℤ) (words' memory' answer' : List ℕ) : Type 0 where
  pub result : r ≡ pos o.answer.code
  pub answer : answer' ≡ words_of_answer o.answer
  pub state : state_of_words words' ≡ o.state
  pub memory : memory' ≡ o.memory
  -- words that stood for a controller stand for one, and no others do
  pub still : is_controller words' ≡ is_controller words
  -- a refusal leaves every word of the controller
  pub refused : eqb o.answer.code 0 ≡ false → eqb o.answer.code 13 ≡ false → words' ≡ words

-- what `s5933_step` promises of its result and of the words at exit
pub record StepPromised (words : List ℕ) (start : ℕ) (memory : List ℕ) (s : Step) (answer : List ℕ) (r : ℤ) (words' memory' answer' : List ℕ) : Type 0 where
  -- an answer of another number of words: -1, which is `negsuc 0`, and nothing changes
  pub unasked : (length answer ≡ answer_words → ⊥) → (r ≡ negsuc 0) × ((words' ≡ words) × ((memory' ≡ memory) × (answer' ≡ answer)))
  pub told : length answer ≡ answer_words → Told (step_of_words words start memory s) words r words' memory' answer'

-- ---- two results

-- the same number, answer, memory and state; and but for 0 and 13 the same words
pub record SameCall (r q : ℤ) (words₁ words₂ memory₁ memory₂ answer₁ answer₂ : List ℕ) : Type 0 where
  pub result : r ≡ q
  pub answer : answer₁ ≡ answer₂
  pub memory : memory₁ ≡ memory₂
  pub state : state_of_words words₁ ≡ state_of_words words₂
  pub controller : is_controller words₁ ≡ is_controller words₂
  pub refused : (r ≡ pos 0 → ⊥) → (r ≡ pos 13 → ⊥) → words₁ ≡ words₂

-- `step_call_unique`: two results that meet the contract are the same
abbrev pub StepCallUnique : Type 0
StepCallUnique =
    (words : List ℕ) (start : ℕ) (memory : List ℕ) (s : Step) (answer : List ℕ) (r q : ℤ) (words₁ words₂ memory₁ memory₂ answer₁ answer₂ : List ℕ)
    → StepPromised words start memory s answer r words₁ memory₁ answer₁ → StepPromised words start memory s answer q words₂ memory₂ answer₂
    → SameCall r q words₁ words₂ memory₁ memory₂ answer₁ answer₂

-- ---- in numbers

pub record StepByNumbers (words : List ℕ) (start : ℕ) (memory : List ℕ) (answer : List ℕ) (r : ℤ) (words' memory' answer' : List ℕ) : Type 0 where
  -- an answer of other than 7 words: -1, and not a word is touched
  pub unasked : (length answer ≡ 7 → ⊥) → (r ≡ negsuc 0) × ((words' ≡ words) × ((memory' ≡ memory) × (answer' ≡ answer)))
  -- else a code of a step, which is the answer's first word too
  pub coded : length answer ≡ 7 → (code : ℕ) × ((r ≡ pos code) × ((is_one_of step_codes code ≡ true) × ((rest : List ℕ) × ((answer' ≡ code ∷ rest) × (length rest ≡ 6)))))
  -- words that stand for no controller: 1, and nothing else is answered
  pub none : length answer ≡ 7 → is_controller words ≡ false → (r ≡ pos 1) × (answer' ≡ 1 ∷ 0 ∷ 0 ∷ 0 ∷ 0 ∷ 0 ∷ 0 ∷ [])
  -- any number but 0 and 13: every word of the controller and of the memory is as it was
  pub refused : (r ≡ pos 0 → ⊥) → (r ≡ pos 13 → ⊥) → (words' ≡ words) × (memory' ≡ memory)
  -- 13: the abort flags go up, both rights end, and nothing else of the state changes, and no word of the memory
  pub aborted : r ≡ pos 13 → AbortOnly (state_of_words words) (state_of_words words') × (memory' ≡ memory)
  -- words that stood for a controller stand for one, and no others do
  pub still : is_controller words' ≡ is_controller words

-- `step_call_rule`: whatever words, memory, start, numbers and answer are, that is what `s5933_step` promises
abbrev pub StepCallRule : Type 0
StepCallRule =
    (words : List ℕ) (start : ℕ) (memory : List ℕ) (s : Step) (answer : List ℕ) (r : ℤ) (words' memory' answer' : List ℕ)
    → StepPromised words start memory s answer r words' memory' answer' → StepByNumbers words start memory answer r words' memory' answer'

-- ---- calls one after the other

-- calls over one window: each is given the words and the memory that the one before left, whatever its answer held before; the steps, and the answers they leave
pub data Calls (start : ℕ) : List ℕ → List ℕ → List Step → List (List ℕ) → List ℕ → List ℕ → Type 0 where
  none : {words memory : List ℕ} → Calls start words memory [] [] words memory
  call : {words memory words' memory' words'' memory'' : List ℕ} {steps : List Step} {answers : List (List ℕ)} {answer' : List ℕ} (s : Step) (answer : List ℕ) (r : ℤ)
      → length answer ≡ answer_words → StepPromised words start memory s answer r words' memory' answer'
      → Calls start words' memory' steps answers words'' memory'' → Calls start words memory (s ∷ steps) (answer' ∷ answers) words'' memory''

-- what is left, and the answers, are those of a run
pub record Ran (o : RunOutcome) (told : List (List ℕ)) (words' memory' : List ℕ) : Type 0 where
  pub answers : told ≡ map (λ (e : Event). words_of_answer e.answer) o.events
  pub controller : is_controller words' ≡ true
  pub state : state_of_words words' ≡ o.state
  pub memory : memory' ≡ o.memory

-- `calls_run`: calls on a controller are the run of their steps from its state
abbrev pub CallsRun : Type 0
CallsRun =
    (start : ℕ) (words memory : List ℕ) (steps : List Step) (answers : List (List ℕ)) (words' memory' : List ℕ)
    → is_controller words ≡ true → Calls start words memory steps answers words' memory' → Ran (run (state_of_words words) start memory steps) answers words' memory'

-- `calls_from_zeros`: on zeros they are the run from reset
abbrev pub CallsFromZeros : Type 0
CallsFromZeros =
    (start : ℕ) (memory : List ℕ) (steps : List Step) (answers : List (List ℕ)) (words' memory' : List ℕ)
    → Calls start (replicate controller_words 0) memory steps answers words' memory' → Ran (run reset_state start memory steps) answers words' memory'

-- ---- calls with whatever window each is given

-- a call as it is asked: its window, by start and memory, and the step; and what it leaves besides the controller
pub record Asked : Type 0 where
  pub start : ℕ
  pub memory : List ℕ
  pub step : Step

pub record Left : Type 0 where
  pub answer : List ℕ
  pub memory : List ℕ

-- each is given the words that the one before left, wherever they were kept meanwhile
pub data GivenCalls : List ℕ → List Asked → List Left → List ℕ → Type 0 where
  none : {words : List ℕ} → GivenCalls words [] [] words
  call : {words words' words'' : List ℕ} {asked : List Asked} {left : List Left} {memory' answer' : List ℕ} (a : Asked) (answer : List ℕ) (r : ℤ)
      → length answer ≡ answer_words → StepPromised words a.start a.memory a.step answer r words' memory' answer'
      → GivenCalls words' asked left words'' → GivenCalls words (a ∷ asked) (record { answer = answer'; memory = memory' } ∷ left) words''

-- the machine's steps with these windows, one after the other: the state that they leave, and what each leaves besides
abbrev pub state_over : State → List Asked → State
state_over st [] = st
state_over st (a ∷ more) = state_over (step_of st a.start a.memory a.step).state more

abbrev pub left_over : State → List Asked → List Left
left_over st [] = []
left_over st (a ∷ more) =
    let o = step_of st a.start a.memory a.step in
    record { answer = words_of_answer o.answer; memory = o.memory } ∷ left_over o.state more

pub record WentOver (st : State) (asked : List Asked) (told : List Left) (words' : List ℕ) : Type 0 where
  pub left : told ≡ left_over st asked
  pub controller : is_controller words' ≡ true
  pub state : state_of_words words' ≡ state_over st asked

-- `calls_given`: calls on a controller, whatever windows they are given, are the machine's steps from its state
abbrev pub CallsGiven : Type 0
CallsGiven =
    (words : List ℕ) (asked : List Asked) (left : List Left) (words' : List ℕ) → is_controller words ≡ true → GivenCalls words asked left words' → WentOver (state_of_words words) asked left words'

-- `calls_alike`: so two rows of the same calls, on controllers of the same state, leave the same answers, memories and state: nothing but the state counts, whichever
-- words stand for it and whatever happened between calls
abbrev pub CallsAlike : Type 0
CallsAlike =
    (asked : List Asked) (words₁ words₂ : List ℕ) (left₁ left₂ : List Left) (words₃ words₄ : List ℕ)
    → is_controller words₁ ≡ true → is_controller words₂ ≡ true → state_of_words words₁ ≡ state_of_words words₂
    → GivenCalls words₁ asked left₁ words₃ → GivenCalls words₂ asked left₂ words₄ → (left₁ ≡ left₂) × (state_of_words words₃ ≡ state_of_words words₄)
