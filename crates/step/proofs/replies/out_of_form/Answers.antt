use Rattle.machine.specs.Step.{answered}
use Rattle.step.proofs.replies.out_of_form.Goals as goal

pub returns : goal.returns
unfolding answered
returns c = λ st.
    let d = c.default.ensures.1 in
    rw (c.from.ensures, d.0, d.1.0, d.1.1.0, d.1.1.1.0, d.1.1.1.1.0, d.1.1.1.1.1)
