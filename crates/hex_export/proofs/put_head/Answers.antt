use Rattle.std.proofs.Common.{◌≡◌, ap, ◌∙◌, arith, ◌+◌, ◌*◌, ◌/◌, ◌%◌, length}
use Rattle.hex_digits.specs.Hex.{digits}
use Rattle.hex_digits.proofs.Numbers.{length_digits}
use Rattle.output.proofs.Wrote.{wrote_then}
use Rattle.hex_export.proofs.Bytes.{four_digits}
use Rattle.hex_export.proofs.put_head.Goals as goal

pub returns : goal.returns
returns c =
    let a = c.args in
    let n : c.from_be_bytes.result ≡ a.count * 16777216 + a.offset / 256 * 65536 + a.offset % 256 * 256 + a.kind = c.from_be_bytes.ensures ∙ rw c.to_be_bytes.ensures (omega arith) in
    let text = c.digits.ensures ∙ ap (digits 8) n ∙ four_digits a.count (a.offset / 256) (a.offset % 256) a.kind (omega arith) (omega arith) (omega arith) in
    let long = ap length c.digits.ensures ∙ length_digits 8 c.from_be_bytes.result in
    (omega (arith, c.put.ensures.next, c.put-p.ensures.next, long), wrote_then c.put-p.ensures (rw text at c.put.ensures))
