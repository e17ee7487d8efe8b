use Rattle.std.proofs.Common.{arith}
use Rattle.s5933_hex.proofs.Within.{export_within}
use Rattle.s5933_hex.proofs.Run.export.Goals as goal

pub shared_ref_as_front-write : goal.shared_ref_as_front-write
shared_ref_as_front-write g c = omega (arith, export_within _ _ _ c.export.ensures c.in-Ok.is)
