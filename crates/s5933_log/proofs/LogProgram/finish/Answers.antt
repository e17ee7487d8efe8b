use Rattle.input.proofs.Within.{finish_within}
use Rattle.s5933_log.proofs.LogProgram.finish.Goals as goal

pub write-requires : goal.write-requires
write-requires g c = finish_within c.finish-r.ensures
