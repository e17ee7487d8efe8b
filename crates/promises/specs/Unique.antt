-- How tight the contracts are: one contract has one result. The contract of nearly every public function is one equation, `view result ≡ value`,
-- where the view is the result itself, the words that a FIFO holds, the number of a count or a fill, the machine's state of a controller, or its
-- outcome of a stepped one with the memory; of what is done or refused it is the code.
use Rattle.std.specs.Prelude.{◌≡◌, ℕ, ⊤, [], ◌∷◌, get_or, Result, Ok, Err}
use Rattle.machine.specs.declared.codes.Refusal.{Refusal}
use Rattle.machine.specs.declared.codes.Refusal.TheVariants.{StateOutOfForm, WindowOutOfForm, UnknownStep, UnknownOffset, BadEnables, PartFifoAccess, ReadOnlyRegister, FifoFullOrEmpty, TransferOff, CountIsZero, AbortStands, FifoNotReady, NoMemoryThere, NotAFrameLine, UnknownLabelSet, NotAHexRecord, WrongSum, OutsideTheWindow, NoEndOrNotLast, OutputTooShort}
use Rattle.machine.specs.Refusals.{code_number}

-- `unique`: two results of which such a contract holds have the same view
abbrev pub Unique : {A B : Type 0} → (A → B) → Type 0
Unique {A} {B} view = (value : B) (r q : A) → view r ≡ value → view q ≡ value → view r ≡ view q

-- what has a code, by the codes in their order: done, or what refuses; 20 to 23 are none
abbrev pub result_of : ℕ → Result ⊤ Refusal
result_of code = get_or (Ok tt ∷ Err StateOutOfForm ∷ Err WindowOutOfForm ∷ Err UnknownStep ∷ Err UnknownOffset ∷ Err BadEnables ∷ Err PartFifoAccess ∷ Err ReadOnlyRegister ∷ Err FifoFullOrEmpty ∷ Err TransferOff ∷ Err CountIsZero ∷ Err AbortStands ∷ Err FifoNotReady ∷ Err NoMemoryThere ∷ Err NotAFrameLine ∷ Err UnknownLabelSet ∷ Err NotAHexRecord ∷ Err WrongSum ∷ Err OutsideTheWindow ∷ Err NoEndOrNotLast ∷ []) code (Err OutputTooShort)

-- `result_back`: a code says what is done or refused
abbrev pub ResultBack : Type 0
ResultBack = (r : Result ⊤ Refusal) → result_of (code_number r) ≡ r

-- `refusal_unique`: so a contract that fixes the code fixes what is done or refused
abbrev pub RefusalUnique : Type 0
RefusalUnique = (n : ℕ) (r q : Result ⊤ Refusal) → code_number r ≡ n → code_number q ≡ n → r ≡ q
