use Rattle.std.proofs.Common.{◌≡◌, arith, ◌+◌, ◌*◌, ◌/◌, ◌%◌, length, slice_index_or}
use Rattle.records.specs.Window.{window_bytes}
use Rattle.records.proofs.Bytes.{length_bytes}
use Rattle.output.proofs.Wrote.{wrote_then}
use Rattle.hex_export.proofs.Bytes.{data_text}
use Rattle.hex_export.proofs.put_data.Goals as goal

pub returns : goal.returns
returns c =
    let a = c.args in
    let ws = a.words.now in
    let high : slice_index_or c.to_be_bytes.result 0 0 ≡ a.offset / 256 = rw c.to_be_bytes.ensures (omega arith) in
    let low : slice_index_or c.to_be_bytes.result 1 0 ≡ a.offset % 256 = rw c.to_be_bytes.ensures (omega arith) in
    let sum = (((4 * length ws + a.offset / 256) % 256 + a.offset % 256) % 256 + c.put_words-content.result.sum) % 256 in
    let tail = rw (high, low) at c.put_tail.ensures.1 in
    rw (← data_text a.offset (4 * length ws) (window_bytes ws) sum (omega arith) (length_bytes ws) (omega (arith, c.put_words-content.ensures.1)))
    (wrote_then (wrote_then c.put_head-p.ensures.1 c.put_words-content.ensures.2) tail)
