use Prim.Native.Nat.{◌*◌, ◌/◌, ◌%◌}
use lib.Bits.{bit_or, and_le_r}
use Rattle.eight.proofs.Written.{numbers_picked}
use Rattle.eight.proofs.numbers_apart.Goals as goal

pub returns : goal.returns
returns c = (and_le_r (bit_or (c.args.z / 16) (c.args.z * 0x100 % 0x1_0000_0000_0000_0000)) 0x0F0F_0F0F_0F0F_0F0F, λ a b d e small q. numbers_picked a b d e small c.args.z q)
