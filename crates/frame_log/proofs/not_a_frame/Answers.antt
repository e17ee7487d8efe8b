use Rattle.machine.specs.Step.{answered, not_aframe}
use Rattle.frame_log.proofs.not_a_frame.Goals as goal

pub returns : goal.returns
unfolding not_aframe answered
returns c = λ st same also. simp (c.default.ensures.1.0, c.default.ensures.1.1.0, c.default.ensures.1.1.1.0, c.default.ensures.1.1.1.1.1.1, c.from.ensures, c.line.ensures, c.line-2.ensures, same, also)
