use Rattle.std.proofs.Common.{◌-◌, ◌≤◌, None, length}
use Rattle.frame_log.specs.Results.{Tells}
use Rattle.frame_log.proofs.progress.Progress.next_line.Given as goal

abbrev pub invariant-loop-self : goal.invariant-loop-self
invariant-loop-self l = (l.initial.self.at ≤ l.self.at) × Tells l.initial.self l.piece None l.self

abbrev pub decreases-loop-self : goal.decreases-loop-self
decreases-loop-self l = length l.piece - l.self.at
