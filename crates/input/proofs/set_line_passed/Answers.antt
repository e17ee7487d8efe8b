use Rattle.std.proofs.Common.{◌+◌, drop, length, sym, ap, ◌∙◌, arith, drop_of_length-le}
use Rattle.input.specs.declared.Reading.{Reading}
use Rattle.input.specs.Input.{passing}
use Rattle.input.proofs.Passing.{passing_none, passing_turn}
use Rattle.input.proofs.Heard.{passing_stop}
use Rattle.input.proofs.set_line_passed.Goals as goal

pub loop-next-preserved : goal.loop-next-preserved
loop-next-preserved c =
    let piece = c.args.piece.now in
    let l = c.loop-next in
    l.invariant ∙ ap (λ (q : Reading). passing q (drop l.next piece)) c.in-FirstLine.is ∙ passing_turn _ piece l.next c.loop-next-test.true
    ∙ ap (λ (q : Reading). passing q (drop (l.next + 1) piece)) (sym c.byte_heard-reading.ensures)

pub returns-in_default : goal.returns-in_default
returns-in_default c =
    let l = c.loop-next in
    record { within = l.auto.next-end; passes = l.invariant ∙ passing_stop l.reading (drop l.next c.args.piece.now) c.in_default.not-FirstLine }

pub returns : goal.returns
returns c =
    let piece = c.args.piece.now in
    let l = c.loop-next in
    let past = drop_of_length-le piece {i = l.next} c.loop-next-test.false in
    let end = drop_of_length-le piece {i = length piece} (omega arith) in
    record { within = omega arith; passes = rw end (l.invariant ∙ rw past (passing_none l.reading)) }
