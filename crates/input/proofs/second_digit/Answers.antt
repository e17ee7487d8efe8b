use Rattle.std.proofs.Common.{sym, ◌∙◌}
use Rattle.input.proofs.Heard.{second_some, second_none}
use Rattle.input.proofs.second_digit.Goals as goal

pub returns-then-is_set : goal.returns-then-is_set
returns-then-is_set c =
    let known = rw (c.from.ensures, c.from-in-Some.ensures) at (sym c.is_set.ensures ∙ c.if-is_set.true) in
    rw (c.from.ensures, c.from-in-Some.ensures) (second_some c.args.b c.args.high _ _ (sym c.digit_number.ensures ∙ c.in-Some.is) known)

pub returns-else-is_set : goal.returns-else-is_set
returns-else-is_set c =
    let known = rw (c.from.ensures, c.from-in-Some.ensures) at (sym c.is_set.ensures ∙ c.if-is_set.false) in
    second_some c.args.b c.args.high _ _ (sym c.digit_number.ensures ∙ c.in-Some.is) known

pub returns-in_default : goal.returns-in_default
returns-in_default c = second_none c.args.b c.args.high (sym c.digit_number.ensures ∙ c.in_default.is)
