use Rattle.std.proofs.Common.{Option, sym, refl, ap, ◌∙◌}
use Rattle.machine.specs.declared.Step.{Step}
use Rattle.controller.specs.Controller.{state_of}
use Rattle.frame.specs.Frame.{framed_outcome}
use Rattle.frame_log.specs.Log.{line_outcome}
use Rattle.frame_log.proofs.answer_line.Goals as goal

pub returns-in-Some : goal.returns-in-Some
unfolding framed_outcome line_outcome
returns-in-Some c =
    let a = c.args in
    c.step.ensures.outcome ∙ ap (λ (f : Option Step). framed_outcome f (state_of a.c) a.start a.memory.now) (sym c.in-Some.is ∙ c.frame.ensures)

pub returns-in-None : goal.returns-in-None
unfolding framed_outcome line_outcome state_of
returns-in-None c =
    let a = c.args in
    rw (c.not_a_frame.ensures (state_of a.c) refl refl) (ap (λ (f : Option Step). framed_outcome f (state_of a.c) a.start a.memory.now) (sym c.in-None.is ∙ c.frame.ensures))
