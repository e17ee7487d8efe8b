use Rattle.std.proofs.Common.{length, ◌-◌}
use Rattle.both_forms.proofs.write_log.Given as goal

abbrev pub decreases-loop-at : goal.decreases-loop-at
decreases-loop-at g l = length l.text - l.at
