use Prim.Native.Nat.{◌+◌, ◌*◌, ◌/◌}
use native.Mathlib.Omega.{arith}
use lib.Bits.{bit_and, and_le_r}
use Rattle.eight.proofs.Packed.{joined_is}
use Rattle.eight.proofs.joined.Goals as goal

pub overflow_mul-four : goal.overflow_mul-four
overflow_mul-four c = omega (arith, and_le_r (c.args.d * 0x10 + c.args.d / 0x100) 0x00FF_00FF_00FF_00FF)

pub overflow_add-four : goal.overflow_add-four
overflow_add-four c = omega (arith, and_le_r (c.args.d * 0x10 + c.args.d / 0x100) 0x00FF_00FF_00FF_00FF)

pub overflow_add-result : goal.overflow_add-result
overflow_add-result c =
    let two = bit_and (c.args.d * 0x10 + c.args.d / 0x100) 0x00FF_00FF_00FF_00FF in
    omega (arith, and_le_r (two * 0x100 + two / 0x1_0000) 0x0000_FFFF_0000_FFFF)

pub returns : goal.returns
returns c = λ ns n e q. joined_is ns c.args.d n e q
