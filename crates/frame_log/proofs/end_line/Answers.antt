use Rattle.std.proofs.Common.{◌<◌, [], length, refl, ap, arith, length-take}
use Rattle.controller.specs.Controller.{state_of}
use Rattle.lines.proofs.Lines.{lines_stop}
use Rattle.output.proofs.Wrote.{wrote_none}
use Rattle.frame_log.specs.Log.{log_of, TextOutcome, lines_outcome}
use Rattle.frame_log.specs.Results.{begun_of}
use Rattle.frame_log.proofs.Carried.{bytes_length}
use Rattle.frame_log.proofs.Ends.{end_is}
use Rattle.frame_log.proofs.end_line.Goals as goal

pub returns-then-s-eq0 : goal.returns-then-s-eq0
unfolding begun_of lines_outcome log_of
returns-then-s-eq0 c = rw (c.if-s-eq0.true, lines_stop [] refl) (record { state = refl; memory = refl; log = wrote_none })

pub feed_bytes-requires : goal.feed_bytes-requires
unfolding begun_of
feed_bytes-requires c =
    let a = c.args in
    let begun : 0 < length (begun_of a.s) = omega (arith, length-take a.s.len a.s.bytes, bytes_length a.s c.well_formed.0, c.if-s-eq0.false) in
    omega (arith, c.requires, ap (λ (t : TextOutcome). length t.answers) (end_is (state_of a.s.controller) a.start a.memory.now (begun_of a.s) begun))

pub returns : goal.returns
unfolding begun_of
returns c =
    let a = c.args in
    let begun : 0 < length (begun_of a.s) = omega (arith, length-take a.s.len a.s.bytes, bytes_length a.s c.well_formed.0, c.if-s-eq0.false) in
    let w = c.feed_bytes.ensures in
    rw (end_is (state_of a.s.controller) a.start a.memory.now (begun_of a.s) begun) (record { state = w.state; memory = w.memory; log = w.log })
