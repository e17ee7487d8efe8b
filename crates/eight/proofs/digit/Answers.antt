use Prim.Native.Nat.{◌%◌}
use native.Mathlib.Omega.{arith}
use Rattle.eight.proofs.Written.{digit_by}
use Rattle.eight.proofs.digit.Goals as goal

pub returns : goal.returns
returns c = digit_by (c.args.n % 16) (omega arith)
