-- Easy to get wrong, labels used as keys: what a log line says is in its digits. No answer has a number that they do not hold.
use Rattle.std.specs.Prelude.{ℕ, ◌≡◌, List, [], ◌∷◌, take}
use Rattle.machine.specs.State.{State}
use Rattle.machine.specs.Event.{logged}
use Rattle.machine.specs.declared.Answer.{Answer}
use Rattle.promises.specs.Fits.{WordsFit, StateFits, Given}
use Rattle.logline.specs.LogLine.{log_line}
use Rattle.frame_log.specs.Log.{text_outcome}

-- `numbers_are_key`: of any two answers that are given, the 21 digits before the label are the whole answer but for the marks that changed, whatever the sets; the label adds nothing
abbrev pub NumbersAreKey : Type 0
NumbersAreKey = (set other : ℕ) (a b : Answer) → Given a → Given b → take 21 (log_line set a) ≡ take 21 (log_line other b) → logged a ≡ logged b

abbrev pub AllGiven : List Answer → Type 0
AllGiven [] = Unit {0}
AllGiven (a ∷ more) = Given a × AllGiven more

-- `text_given`: every answer to a text is one of them, from any state and memory whose numbers are below 2^32, as reset and zero words are
abbrev pub TextGiven : Type 0
TextGiven = (st : State) (start : ℕ) (memory text : List ℕ) → StateFits st → WordsFit memory → AllGiven (text_outcome st start memory text).answers
