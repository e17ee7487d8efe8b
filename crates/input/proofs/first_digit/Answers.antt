use Rattle.std.proofs.Common.{sym, ◌∙◌}
use Rattle.input.proofs.Heard.{first_some, first_none}
use Rattle.input.proofs.first_digit.Goals as goal

pub returns-in-Some : goal.returns-in-Some
returns-in-Some c = first_some c.args.b _ _ (sym c.digit_number.ensures ∙ c.in-Some.is) (rw c.from.ensures at (sym c.is_set.ensures ∙ c.if-is_set.true))

pub returns-in_default : goal.returns-in_default
returns-in_default c = first_some c.args.b _ _ (sym c.digit_number.ensures ∙ c.in-Some.is) (rw c.from.ensures at (sym c.is_set.ensures ∙ c.if-is_set.false))

pub returns-in_default-2 : goal.returns-in_default-2
returns-in_default-2 c = first_none c.args.b (sym c.digit_number.ensures ∙ c.in_default.is)
