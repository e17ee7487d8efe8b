use native.Mathlib.Omega.{arith}
use Rattle.output.proofs.Wrote.{wrote_part}
use Rattle.hex_export.proofs.put.Goals as goal

pub returns : goal.returns
returns c = let a = c.args in wrote_part a.out.now a.src.now _ a.at _ c.requires c.copy_from_slice.ensures.after (omega arith)
