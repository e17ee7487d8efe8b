use Rattle.std.proofs.Common.{eq-eqb, ne_eqb}
use Rattle.input.specs.Input.{heard}
use Rattle.input.proofs.byte_heard.Goals as goal

pub returns-in-Nothing : goal.returns-in-Nothing
returns-in-Nothing c = rw c.in-Nothing.is c.first_digit.ensures

pub returns-in-Digit : goal.returns-in-Digit
returns-in-Digit c = rw c.in-Digit.is c.second_digit.ensures

pub returns-in-Number : goal.returns-in-Number
unfolding heard
returns-in-Number c = rw c.in-Number.is (simp (eq-eqb _ _ c.if-b-eq-LF.true))

pub returns-in-Number-2 : goal.returns-in-Number-2
unfolding heard
returns-in-Number-2 c = rw c.in-Number-2.is (simp (ne_eqb _ _ c.if-b-eq-LF.false))
