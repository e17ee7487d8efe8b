use mathlib.Core.Path.{ap, ◌∙◌}
use mathlib.Core.Bool.{and-false}
use Rattle.machine.specs.Interrupts.{line_of}
use Rattle.machine.specs.Step.{answered}
use Rattle.interrupts.proofs.Lines.{neither_below}
use Rattle.step.proofs.replies.answered.Goals as goal

pub returns-then-intcsr-aint-lt-LOWEST_FLAG : goal.returns-then-intcsr-aint-lt-LOWEST_FLAG
unfolding answered
returns-then-intcsr-aint-lt-LOWEST_FLAG c = λ st i a.
    let none = neither_below c.args.intcsr c.args.aint c.if-intcsr-aint-lt-LOWEST_FLAG.true in
    let d = c.default.ensures.1.1.1.1 in
    simp (d.0, d.1.0, ap line_of i ∙ none.0, ap line_of a ∙ none.1, and-false)

pub returns : goal.returns
unfolding answered
returns c = λ st i a. rw (c.from.ensures, c.line.ensures, c.line-2.ensures, i, a)
