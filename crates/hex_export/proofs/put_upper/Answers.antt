use Rattle.std.proofs.Common.{◌≡◌, arith, ◌+◌, ◌/◌, ◌%◌, length, take, drop, ap, length-drop, slice_index_or}
use Rattle.std.proofs.lemmas.List.{take_all}
use Rattle.hex_digits.proofs.Numbers.{length_digits}
use Rattle.records.specs.Record.{total}
use Rattle.records.specs.Export.{upper_record}
use Rattle.output.proofs.Wrote.{wrote_then}
use Rattle.hex_export.proofs.Bytes.{last_four, parts, front_total}
use Rattle.hex_export.proofs.put_upper.Goals as goal

pub returns : goal.returns
unfolding total
returns c =
    let a = c.args in
    let high : slice_index_or c.to_be_bytes.result 0 0 ≡ a.upper / 256 = rw c.to_be_bytes.ensures (omega arith) in
    let low : slice_index_or c.to_be_bytes.result 1 0 ≡ a.upper % 256 = rw c.to_be_bytes.ensures (omega arith) in
    let four = last_four c.digits.result a.upper c.digits.ensures in
    let text : take 4 (drop 4 c.digits.result) ≡ drop 4 c.digits.result = take_all 4 (drop 4 c.digits.result) (rw length-drop (omega (arith, ap length c.digits.ensures, length_digits 8 a.upper))) in
    let sum = ((a.upper / 256 + a.upper % 256) % 256 + 6) % 256 in
    let tail = rw (high, low) at c.put_tail.ensures.1 in
    rw (← parts (upper_record a.upper) sum (omega (arith, front_total (upper_record a.upper))))
    (wrote_then (wrote_then c.put_head-p.ensures.1 (rw (text, four) at c.put-q.ensures)) tail)
