use native.Mathlib.Omega.{arith}
use Rattle.machine.specs.Codes.{unknown_label_set}
use Rattle.logline.specs.LogLine.{refusing, refusal}
use Rattle.output.proofs.Wrote.{wrote_none}
use Rattle.logline.proofs.Room.{in-room, no_room_lem, refusal_line}
use Rattle.logline.proofs.put_unknown_set.Goals as goal

pub returns-then-out-lt-LINE_ROOM : goal.returns-then-out-lt-LINE_ROOM
returns-then-out-lt-LINE_ROOM c = let a = c.args in rw (no_room_lem 0 a.out.now 0 (refusing unknown_label_set) (omega (arith, c.if-out-lt-LINE_ROOM.true))) wrote_none

pub returns : goal.returns
unfolding refusal
returns c =
    let a = c.args in
    rw (in-room 0 a.out.now 0 (refusing unknown_label_set) (omega (arith, c.if-out-lt-LINE_ROOM.false)), refusal_line) c.put.ensures
