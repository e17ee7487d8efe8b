use Rattle.std.proofs.Common.{refl}
use Rattle.frame_log.proofs.Carried.{push-room, push-full}
use Rattle.frame_log.proofs.Turns.{lf-takes, byte-takes}
use Rattle.frame_log.proofs.progress.Progress.take_byte.Goals as goal

pub returns-then-x-eq10 : goal.returns-then-x-eq10
returns-then-x-eq10 c = lf-takes _ _ c.args.piece.now c.requires refl _ refl c.if-x-eq10.true c.frame-said.ensures

pub returns-then-self-lt14 : goal.returns-then-self-lt14
returns-then-self-lt14 c =
    let p = c.args.self.now in
    byte-takes _ _ c.args.piece.now c.requires refl c.if-x-eq10.false (push-room p.bytes p.whole p.len _ c.if-self-lt14.true)

pub returns-else-self-lt14 : goal.returns-else-self-lt14
returns-else-self-lt14 c =
    let p = c.args.self.now in
    byte-takes _ _ c.args.piece.now c.requires refl c.if-x-eq10.false (push-full p.bytes p.whole p.len _ p.few c.if-self-lt14.false)
