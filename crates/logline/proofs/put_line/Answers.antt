use native.Mathlib.Omega.{arith}
use Rattle.logline.specs.LogLine.{log_body, log_line}
use Rattle.output.proofs.Wrote.{wrote_none, wrote_one, wrote_then}
use Rattle.logline.proofs.Labels.{labels_short}
use Rattle.logline.proofs.Room.{in-room, no_room_lem}
use Rattle.logline.proofs.put_line.Goals as goal

pub returns-then-n-lt-LINE_ROOM : goal.returns-then-n-lt-LINE_ROOM
returns-then-n-lt-LINE_ROOM c = let a = c.args in rw (no_room_lem a.set a.out.now a.at a.a (omega arith)) wrote_none

-- the label leaves room for the LF
pub bounds-out-end : goal.bounds-out-end
bounds-out-end c = omega (arith, labels_short c.args.set c.args.a.code)

pub overflow_add-result : goal.overflow_add-result
overflow_add-result c = let room = bounds-out-end c in record { fits = omega (arith, c.well_formed) }

pub returns : goal.returns
unfolding log_body log_line
returns c =
    let a = c.args in
    rw (in-room a.set a.out.now a.at a.a (omega arith))
    (wrote_then (wrote_then c.put_numbers-p.ensures.1 c.put_label-end.ensures) (wrote_one _ c.put_label-end.result 10))
