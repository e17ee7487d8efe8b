use Rattle.std.proofs.Common.{Option, ap}
use Rattle.frame_log.specs.Counts.{CountOutcome}
use Rattle.frame_log.specs.declared.Cycles.{Cycles}
use Rattle.tally.specs.Tally.{total_of, ended_by}
use Rattle.tally.proofs.Fed.{total_if}
use Rattle.tally.proofs.finish.Goals as goal

pub returns-in-FirstLine : goal.returns-in-FirstLine
unfolding ended_by
returns-in-FirstLine c = rw (c.in-FirstLine.is, c.then_some.ensures, c.has_set.ensures) (ap (λ (t : Option Cycles). record { total = t; memory = c.args.memory.now }) (total_if _ _))

pub returns-in-Frames : goal.returns-in-Frames
unfolding ended_by
returns-in-Frames c = rw c.in-Frames.is (ap (λ (k : CountOutcome). record { total = total_of k; memory = k.memory }) c.count_end-counted.ensures)

pub returns-in-Over : goal.returns-in-Over
unfolding ended_by
returns-in-Over c = rw c.in-Over.is
