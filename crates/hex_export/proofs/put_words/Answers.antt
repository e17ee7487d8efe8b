use Rattle.std.proofs.Common.{◌≡◌, refl, arith, length, take}
use Rattle.std.proofs.lemmas.List.{take_all}
use Rattle.records.specs.Window.{window_bytes}
use Rattle.records.specs.Record.{total, hexes}
use Rattle.output.proofs.Wrote.{wrote_none, wrote_then}
use Rattle.hex_export.proofs.Bytes.{total_more, hexes_more, total_four, hexes_four}
use Rattle.hex_export.proofs.put_words.Goals as goal

pub loop-w-init : goal.loop-w-init
unfolding window_bytes total hexes
loop-w-init c = (omega arith, refl, wrote_none)

pub loop-w-preserved : goal.loop-w-preserved
loop-w-preserved c =
    let ws = c.args.words.now in
    let k = c.loop-w.w-index in
    let v = c.loop-w.invariant in
    (omega (arith, c.put_word-p.ensures.0, v.0), omega (arith, c.byte_sum-sum.ensures, v.1, total_more ws k (omega arith)), rw (← hexes_more ws k (omega arith)) (wrote_then v.2 c.put_word-p.ensures.1))

pub returns-in-len4 : goal.returns-in-len4
returns-in-len4 c =
    let ws = c.args.words.now in
    let four : length ws ≡ 4 = omega (arith, c.in-len4.len_at_least, c.in-len4.len_below) in
    let wrote = wrote_then (wrote_then (wrote_then c.put_word-p1.ensures.1 c.put_word-p2.ensures.1) c.put_word-p3.ensures.1) c.put_word-p4.ensures.1 in (
      omega (arith, four, c.put_word-p1.ensures.0, c.put_word-p2.ensures.0, c.put_word-p3.ensures.0, c.put_word-p4.ensures.0),
      omega (arith, c.four_sum.ensures, total_four ws four),
      rw (← hexes_four ws four) wrote,
    )

pub returns : goal.returns
returns c =
    let v = c.loop-w.invariant in
    let all : take c.loop-w.w-index c.args.words.now ≡ c.args.words.now = take_all c.loop-w.w-index c.args.words.now c.loop-w-test.false in
    (omega (arith, v.0, c.loop-w.auto.w-index-end, c.loop-w-test.false), rw all at v.1, rw all at v.2)
