use mathlib.Core.Path.{sym, ◌∙◌}
use native.Mathlib.Omega.{arith}
use Rattle.lines.proofs.Counts.{count_open, count_closed, count_none}
use Rattle.lines.proofs.line_count.Goals as goal

pub returns-in-Some : goal.returns-in-Some
returns-in-Some c =
    let last = rw c.in-Some.is at c.last.ensures.value in
    rw c.lf_count-n.ensures (sym (count_open c.args.text.now c.in-Some.b.now (sym last) (λ e. omega arith)))

pub returns-in_default : goal.returns-in_default
returns-in_default c =
    let last = rw c.in-Some.is at c.last.ensures.value in
    c.lf_count-n.ensures ∙ sym (count_closed c.args.text.now c.in-Some.b.now (sym last) (omega arith))

pub returns-in_default-2 : goal.returns-in_default-2
returns-in_default-2 c =
    let last = rw c.in_default.is at c.last.ensures.value in
    c.lf_count-n.ensures ∙ sym (count_none c.args.text.now (sym last))
