use Rattle.std.proofs.Common.{drop, sym, refl, ◌∙◌, arith, length-drop}
use Rattle.frame_log.proofs.Turns.{frame_line_lem, line-takes, part-takes}
use Rattle.frame_log.proofs.progress.Progress.turn.Goals as goal

pub returns-in-Some : goal.returns-in-Some
returns-in-Some c =
    let p = c.args.self.now in
    let piece = c.args.piece.now in
    let l = frame_line_lem (drop p.at piece) _ (sym c.frame_at.ensures ∙ c.in-Some.is) in
    line-takes _ _ piece 13 _ c.if-self-ne0.false c.if-self-ne0.false (omega arith) l.until (omega (arith, l.more, length-drop p.at piece)) (sym l.says)

pub returns-then-end-piece : goal.returns-then-end-piece
returns-then-end-piece c =
    part-takes _ _ c.args.piece.now _ _ c.if-self-ne0.false c.if-self-ne0.false refl c.line_at-line.ensures.bytes (omega (arith, c.requires)) c.if-end-piece.true c.frame.ensures
