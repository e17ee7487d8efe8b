use Prim.Native.Nat.{◌/◌, ◌%◌}
use native.Mathlib.Omega.{arith}
use Rattle.eight.proofs.Written.{apart_small, eight_at}
use Rattle.eight.proofs.digits.Goals as goal

pub numbers_apart-requires : goal.numbers_apart-requires
numbers_apart-requires c =
    let x = c.args.x in
    rw c.bytes_apart.ensures (apart_small (x / 0x100_0000) (x / 0x1_0000 % 256) (x / 0x100 % 256) (x % 256) (omega arith, (omega arith, (omega arith, (omega arith, tt)))))

pub returns : goal.returns
returns c =
    let x = c.args.x in
    rw (c.to_le_bytes.ensures, c.texts_at.ensures)
    (eight_at x c.numbers_apart.result
    (c.numbers_apart.ensures.1 (x / 0x100_0000) (x / 0x1_0000 % 256) (x / 0x100 % 256) (x % 256) (omega arith, (omega arith, (omega arith, (omega arith, tt)))) c.bytes_apart.ensures))
