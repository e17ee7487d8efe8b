use native.Mathlib.Omega.{arith}
use lib.Bits.{and_le_r}
use Rattle.eight.proofs.Packed.{numbers_packed}
use Rattle.eight.proofs.numbers_in.Goals as goal

pub overflow_mul-result : goal.overflow_mul-result
overflow_mul-result c = omega (arith, and_le_r c.args.v 0x4040_4040_4040_4040)

pub overflow_add-result : goal.overflow_add-result
overflow_add-result c = omega (arith, and_le_r c.args.v 0x4040_4040_4040_4040, and_le_r c.args.v 0x0F0F_0F0F_0F0F_0F0F)

pub returns : goal.returns
returns c = (
  omega (arith, and_le_r c.args.v 0x4040_4040_4040_4040, and_le_r c.args.v 0x0F0F_0F0F_0F0F_0F0F),
  λ bs n e q. rw q (numbers_packed bs n e),
)
