use mathlib.Core.Path.{refl}
use Rattle.fifo.specs.Held.{held}
use Rattle.controller.specs.Controller.{lane_of}
use Rattle.bank.proofs.lane_of.Goals as goal

pub returns : goal.returns
unfolding lane_of held
returns c = refl
