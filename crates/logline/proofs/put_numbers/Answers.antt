use mathlib.Core.Bool.{cond}
use mathlib.Core.List.{◌++◌}
use mathlib.Core.Path.{◌≡◌}
use native.Mathlib.Omega.{arith}
use lib.ListN.{length, length-append}
use Rattle.hex_digits.specs.Hex.{bytes, digits}
use Rattle.hex_digits.proofs.Numbers.{length_digits}
use Rattle.logline.specs.LogLine.{numbers}
use Rattle.output.proofs.Wrote.{wrote_then}
use Rattle.logline.proofs.Digits.{joined}
use Rattle.logline.proofs.put_numbers.Goals as goal

pub returns : goal.returns
unfolding numbers
returns c =
    let a = c.args.a in
    let first = rw c.code_digits-code.ensures at c.put-p1.ensures in
    let address = rw c.mostly_zeros-address.ensures at c.put-p2.ensures in
    let value = rw c.digits-value.ensures at c.put-p3.ensures in
    let last = rw c.last_digits-last.ensures at c.put.ensures in
    let long : length (digits 1 a.enables ++ digits 1 (cond a.line 1 0) ++ digits 1 (cond a.addon_line 1 0) ++ bytes " ") ≡ 4 = simp (length-append, length_digits) in
    (omega (arith, first.next, address.next, value.next, last.next, long, length_digits 2 a.code, length_digits 8 a.address, length_digits 8 a.value), rw (joined _ _ _ _ _) at (wrote_then (wrote_then (wrote_then first address) value) last))
