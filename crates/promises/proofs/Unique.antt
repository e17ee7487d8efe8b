-- Two results that meet one equation have the same view; two that have one code are the same.
use mathlib.Core.Path.{sym, ap, ◌∙◌}
use Rattle.std.specs.Prelude.{Ok, Err, refl}
use Rattle.machine.specs.declared.codes.Refusal.TheVariants.{StateOutOfForm, WindowOutOfForm, UnknownStep, UnknownOffset, BadEnables, PartFifoAccess, ReadOnlyRegister, FifoFullOrEmpty, TransferOff, CountIsZero, AbortStands, FifoNotReady, NoMemoryThere, NotAFrameLine, UnknownLabelSet, NotAHexRecord, WrongSum, OutsideTheWindow, NoEndOrNotLast, OutputTooShort}
use Rattle.promises.specs.Unique.{Unique, result_of, ResultBack, RefusalUnique}

pub unique : {A B : Type 0} (view : A → B) → Unique view
unique view value r q e f = e ∙ sym f

pub result_back : ResultBack
result_back (Ok x) = refl
result_back (Err StateOutOfForm) = refl
result_back (Err WindowOutOfForm) = refl
result_back (Err UnknownStep) = refl
result_back (Err UnknownOffset) = refl
result_back (Err BadEnables) = refl
result_back (Err PartFifoAccess) = refl
result_back (Err ReadOnlyRegister) = refl
result_back (Err FifoFullOrEmpty) = refl
result_back (Err TransferOff) = refl
result_back (Err CountIsZero) = refl
result_back (Err AbortStands) = refl
result_back (Err FifoNotReady) = refl
result_back (Err NoMemoryThere) = refl
result_back (Err NotAFrameLine) = refl
result_back (Err UnknownLabelSet) = refl
result_back (Err NotAHexRecord) = refl
result_back (Err WrongSum) = refl
result_back (Err OutsideTheWindow) = refl
result_back (Err NoEndOrNotLast) = refl
result_back (Err OutputTooShort) = refl

pub refusal_unique : RefusalUnique
refusal_unique n r q e f = sym (result_back r) ∙ ap result_of (e ∙ sym f) ∙ result_back q
