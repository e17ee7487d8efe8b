use Rattle.std.proofs.Common.{arith}
use Rattle.hex_export.proofs.Bytes.{four_sum}
use Rattle.hex_export.proofs.four_sum.Goals as goal

pub returns : goal.returns
returns c =
    let a = c.args in
    rw (c.from.ensures, c.from-2.ensures, c.from-3.ensures, c.from-4.ensures, c.from-even.ensures) (four_sum a.a a.b a.c a.d (omega arith) (omega arith) (omega arith) (omega arith))
