use Prim.Native.Nat.{◌+◌}
use native.Mathlib.Omega.{arith}
use lib.Bits.{and_le_r}
use Rattle.eight.proofs.Packed.{digits_packed}
use Rattle.eight.proofs.are_digits.Goals as goal

pub overflow_mul-text : goal.overflow_mul-text
overflow_mul-text c = omega (arith, and_le_r (c.args.d + 0x0606_0606_0606_0606) 0x1010_1010_1010_1010)

pub overflow_add-text-2 : goal.overflow_add-text-2
overflow_add-text-2 c = omega (arith, c.requires, and_le_r (c.args.d + 0x0606_0606_0606_0606) 0x1010_1010_1010_1010)

pub returns : goal.returns
returns c = λ bs n e q w. rw q (digits_packed bs c.args.d n e w)
