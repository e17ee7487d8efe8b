use mathlib.Core.Path.{◌≡◌, refl}
use mathlib.Core.Bool.{Bool, true, false}
use mir.Val.{bool_byte}
use Rattle.bank.specs.Words.{one_if}
use Rattle.driver.specs.Call.{words_of_answer}
use Rattle.driver.proofs.words_of.Goals as goal

as_word : (b : Bool) → bool_byte b ≡ one_if b
as_word true = refl
as_word false = refl

pub returns : goal.returns
unfolding words_of_answer
returns c = rw (c.from.ensures, c.from-2.ensures, as_word c.args.a.line, as_word c.args.a.addon_line)
