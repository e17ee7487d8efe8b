use Rattle.std.proofs.Common.{ap, ◌∙◌, arith, ◌%◌, ◌/◌, length}
use Rattle.hex_digits.specs.Hex.{digits}
use Rattle.hex_digits.proofs.Numbers.{length_digits}
use Rattle.records.specs.Window.{window_bytes}
use Rattle.hex_export.proofs.Bytes.{four_digits}
use Rattle.hex_export.proofs.put_word.Goals as goal

pub returns : goal.returns
unfolding window_bytes
returns c =
    let w = c.args.w in
    let text = c.digits.ensures ∙ ap (digits 8) c.swap_bytes.ensures ∙ four_digits (w % 256) (w / 256 % 256) (w / 65536 % 256) (w / 16777216 % 256) (omega arith) (omega arith) (omega arith) in
    let long = ap length c.digits.ensures ∙ length_digits 8 c.swap_bytes.result in
    (omega (arith, c.put.ensures.next, long), rw text at c.put.ensures)
