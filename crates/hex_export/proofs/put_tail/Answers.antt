use Rattle.std.proofs.Common.{◌≡◌, ◌∙◌, arith, ◌-◌, ◌%◌}
use Rattle.hex_export.proofs.Bytes.{last_two}
use Rattle.hex_export.proofs.put_tail.Goals as goal

pub returns : goal.returns
returns c =
    let n : c.wrapping_neg.result ≡ (256 - c.args.sum) % 256 = omega arith in
    let text = last_two c.digits-digits.result c.wrapping_neg.result c.digits-digits.ensures ∙ rw n in
    (c.put.ensures.next, rw text at c.put.ensures)
