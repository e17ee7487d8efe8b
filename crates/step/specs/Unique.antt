-- What `step` promises of a result and the memory at exit, and that it fixes both; that a step on words is fixed likewise.
use Rattle.std.specs.Prelude.{ℕ, ◌≡◌, false, List, eqb}
use Rattle.machine.specs.Step.{step_of}
use Rattle.machine.specs.declared.Step.{Step}
use Rattle.controller.specs.Controller.{state_of}
use Rattle.controller.specs.declared.Controller.{Controller}
use Rattle.bank.specs.Words.{state_of_words}
use Rattle.machine.specs.declared.Answer.{Answer}
use Rattle.step.specs.Outcome.{outcome_of}
use Rattle.step.specs.Parts.{InWords}
use Rattle.step.specs.declared.Stepped.{Stepped}

-- the contract: the outcome is the machine's, and a refusal leaves the controller literally as it was
pub record StepPromised (c : Controller) (start : ℕ) (memory : List ℕ) (s : Step) (r : Stepped) (after : List ℕ) : Type 0 where
  pub outcome : outcome_of r after ≡ step_of (state_of c) start memory s
  pub refused : eqb r.answer.code 0 ≡ false → eqb r.answer.code 13 ≡ false → r.controller ≡ c

-- two results are the same: state (FIFOs by the words they hold), answer and memory, and where refused the controllers to the letter
pub record SameStep (r q : Stepped) (after also : List ℕ) : Type 0 where
  pub state : state_of r.controller ≡ state_of q.controller
  pub answer : r.answer ≡ q.answer
  pub memory : after ≡ also
  pub refused : eqb r.answer.code 0 ≡ false → eqb r.answer.code 13 ≡ false → r.controller ≡ q.controller

-- `step_unique`
abbrev pub StepUnique : Type 0
StepUnique =
    (c : Controller) (start : ℕ) (memory : List ℕ) (s : Step) (r q : Stepped) (after also : List ℕ)
    → StepPromised c start memory s r after → StepPromised c start memory s q also → SameStep r q after also

-- two results of a step on words are the same: answer, memory and state, and but for codes 0 and 13 the words
pub record SameInWords (a b : Answer) (words₁ words₂ memory₁ memory₂ : List ℕ) : Type 0 where
  pub answer : a ≡ b
  pub memory : memory₁ ≡ memory₂
  pub state : state_of_words words₁ ≡ state_of_words words₂
  pub refused : eqb a.code 0 ≡ false → eqb a.code 13 ≡ false → words₁ ≡ words₂

-- `in_words_unique`
abbrev pub InWordsUnique : Type 0
InWordsUnique =
    (words memory : List ℕ) (start form : ℕ) (s : Step) (a b : Answer) (words₁ words₂ memory₁ memory₂ : List ℕ)
    → InWords words memory start form s a words₁ memory₁ → InWords words memory start form s b words₂ memory₂ → SameInWords a b words₁ words₂ memory₁ memory₂
