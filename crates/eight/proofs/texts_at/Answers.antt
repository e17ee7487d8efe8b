use Prim.Native.Nat.{◌+◌, ◌/◌}
use mathlib.Core.Path.{refl}
use native.Mathlib.Omega.{arith}
use lib.Bits.{and_le_r}
use Rattle.eight.specs.Written.{texts_at}
use Rattle.eight.proofs.texts_at.Goals as goal

pub overflow_mul-result : goal.overflow_mul-result
overflow_mul-result c = omega (arith, and_le_r ((c.args.n + 434041037028460038) / 16) 72340172838076673)

pub overflow_add-result-2 : goal.overflow_add-result-2
overflow_add-result-2 c = omega (arith, c.requires, and_le_r ((c.args.n + 434041037028460038) / 16) 72340172838076673)

pub returns : goal.returns
unfolding texts_at
returns c = refl
