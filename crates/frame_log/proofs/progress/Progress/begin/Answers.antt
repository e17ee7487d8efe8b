use Rattle.std.proofs.Common.{refl, rules}
use Rattle.frame_log.specs.Results.{begun_of}
use Rattle.frame_log.proofs.Carried.{clip}
use Rattle.frame_log.proofs.progress.Progress.begin.Goals as goal

pub returns : goal.returns
unfolding begun_of
returns c = let s = c.args.s.now in (refl, rw c.min.ensures (clip s.bytes (search rules) s.len))
