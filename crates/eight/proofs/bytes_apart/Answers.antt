use Prim.Native.Nat.{◌/◌, ◌%◌}
use native.Mathlib.Omega.{arith}
use Rattle.eight.proofs.Written.{halves_apart, bytes_picked}
use Rattle.eight.proofs.bytes_apart.Goals as goal

pub returns : goal.returns
returns c =
    let x = c.args.x in
    rw c.from-w.ensures
    (bytes_picked (x / 0x100_0000) (x / 0x1_0000 % 256) (x / 0x100 % 256) (x % 256) (omega arith, (omega arith, (omega arith, (omega arith, tt)))) _ (halves_apart x (omega arith)))
