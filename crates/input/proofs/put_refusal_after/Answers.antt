use Rattle.std.proofs.Common.{arith}
use Rattle.machine.specs.Codes.{unknown_label_set}
use Rattle.logline.specs.LogLine.{refusing, refusal}
use Rattle.logline.proofs.Room.{in-room}
use Rattle.output.proofs.Wrote.{wrote_none}
use Rattle.input.specs.Input.{refusal_after}
use Rattle.input.proofs.Heard.{no_first}
use Rattle.input.proofs.put_refusal_after.Goals as goal

pub returns-in-FirstLine : goal.returns-in-FirstLine
unfolding refusal_after refusal
returns-in-FirstLine c =
    rw c.in-FirstLine.is (rw (in-room 0 c.args.out.now 0 (refusing unknown_label_set) (omega (arith, c.requires))) at c.put_unknown_set.ensures)

pub returns-in_default : goal.returns-in_default
returns-in_default c = rw (no_first c.args.before c.in_default.not-FirstLine) wrote_none
