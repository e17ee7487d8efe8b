use native.Mathlib.Omega.{arith}
use Rattle.lines.proofs.Positions.{end_is, end_fits, past_more, past-last}
use Rattle.lines.proofs.past_line.Goals as goal

pub overflow_add-end : goal.overflow_add-end
overflow_add-end c =
    let a = c.args in
    record { fits = omega (arith, end_is a.text.now a.at _ c.line_at.ensures.bytes, end_fits a.text.now a.at, c.well_formed) }

pub returns-then-end-text : goal.returns-then-end-text
returns-then-end-text c = let a = c.args in past_more a.text.now a.at _ (end_is a.text.now a.at _ c.line_at.ensures.bytes) c.if-end-text.true

pub returns-else-end-text : goal.returns-else-end-text
returns-else-end-text c = let a = c.args in past-last a.text.now a.at _ (end_is a.text.now a.at _ c.line_at.ensures.bytes) c.if-end-text.false
