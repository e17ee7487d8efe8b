use Rattle.std.proofs.Common.{arith}
use Rattle.logline.proofs.Room.{line-within}
use Rattle.s5933_hex.proofs.Run.refuse.Goals as goal

pub shared_ref_as_front-write : goal.shared_ref_as_front-write
shared_ref_as_front-write g c = omega (arith, line-within _ _ _ c.put_refusal-n.ensures)
