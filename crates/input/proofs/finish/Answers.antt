use Rattle.std.proofs.Common.{refl, sym, ap, ◌∙◌, arith}
use Rattle.machine.specs.Codes.{unknown_label_set}
use Rattle.logline.specs.LogLine.{refusing, refusal}
use Rattle.logline.proofs.Room.{in-room}
use Rattle.frame_log.proofs.Room.{short, long, log-end, with-log}
use Rattle.input.specs.Results.{lines_left}
use Rattle.input.proofs.Promised.{ended_run, at_reading, ended-over, ended-short, ended-known, ended-refused, ended-frames, refusal_fits}
use Rattle.input.proofs.finish.Goals as goal

pub returns-in-FirstLine : goal.returns-in-FirstLine
returns-in-FirstLine c =
    let a = c.args in
    let few = short 1 a.out.now (omega (arith, c.if-out-lt-LINE_ROOM.true)) in
    record { ended = at_reading a.i a.start a.memory.now a.out.now c.in-FirstLine.is (ended-short a.i a.start a.memory.now a.out.now _ few c.in-FirstLine.is); refused = λ h. refl }

pub returns-in-FirstLine-2 : goal.returns-in-FirstLine-2
returns-in-FirstLine-2 c =
    let a = c.args in
    let enough = long 1 a.out.now (omega (arith, c.if-out-lt-LINE_ROOM.false)) in
    record { ended = at_reading a.i a.start a.memory.now a.out.now c.in-FirstLine-2.is (ended-known a.i a.start a.memory.now a.out.now _ enough (sym c.has_set.ensures ∙ c.if-has_set.true)); refused = λ h. refl }

pub returns-in-FirstLine-3 : goal.returns-in-FirstLine-3
unfolding refusal
returns-in-FirstLine-3 c =
    let a = c.args in
    let w = rw (in-room 0 a.out.now 0 (refusing unknown_label_set) (omega (arith, c.if-out-lt-LINE_ROOM.false))) at c.put_unknown_set.ensures in
    let enough = long 1 a.out.now (omega (arith, c.if-out-lt-LINE_ROOM.false)) in
    let none = sym c.has_set.ensures ∙ c.if-has_set.false in
    record {
      ended = ended-refused a.i a.start a.memory.now a.out.now _ enough none _ _ (log-end w) (with-log w (omega (arith, refusal_fits, c.if-out-lt-LINE_ROOM.false)))
          ∙ ap (ended_run a.i a.start a.memory.now a.out.now) (sym c.in-FirstLine-2.is);
      refused = λ h. refl;
    }

pub returns-in-Frames : goal.returns-in-Frames
unfolding lines_left
returns-in-Frames c =
    let a = c.args in
    let g = c.in-Frames.is in
    record { ended = at_reading a.i a.start a.memory.now a.out.now g (ended-frames a.i a.start a.memory.now a.out.now _ _ _ _ _ g c.finish-ran.ensures.ran); refused = rw g c.finish-ran.ensures.refused }

pub returns-in-Over : goal.returns-in-Over
returns-in-Over c =
    let a = c.args in
    record { ended = at_reading a.i a.start a.memory.now a.out.now c.in-Over.is (ended-over a.i a.start a.memory.now a.out.now); refused = λ h. refl }
