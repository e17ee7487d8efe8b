use Rattle.std.proofs.Common.{length, sym, refl, ◌∙◌, true≢false, arith}
use Rattle.controller.specs.Controller.{state_of}
use Rattle.frame_log.specs.Log.{piece_outcome}
use Rattle.frame_log.specs.Results.{begun_of, piece_of}
use Rattle.frame_log.proofs.Carried.{answers_few}
use Rattle.frame_log.proofs.TextOutcome.{log_length}
use Rattle.frame_log.proofs.Room.{short, long, log-end, with-log}
use Rattle.frame_log.proofs.feed.Goals as goal

pub returns-then-out-piece : goal.returns-then-out-piece
unfolding piece_of
returns-then-out-piece c =
    let a = c.args in
    let few = short (length a.piece.now) a.out.now c.if-out-piece.true in
    record { fed = simp few; refused = λ e. refl }

pub returns : goal.returns
unfolding piece_of
returns c =
    let a = c.args in
    let enough = long (length a.piece.now) a.out.now c.if-out-piece.false in
    let w = c.feed_bytes-fed.ensures in
    let st = state_of a.s.controller in
    let f = piece_outcome st a.start a.memory.now (begun_of a.s) a.piece.now in
    let n = answers_few st a.start a.memory.now (begun_of a.s) a.piece.now in
    record {
      fed = rw (w.state, w.memory, w.begun, log-end w.log, with-log w.log (omega (arith, log_length a.set f.answers, n, c.if-out-piece.false))) (simp enough);
      refused = λ f. absurd (true≢false (sym f ∙ enough));
    }

pub feed_bytes-fed-requires : goal.feed_bytes-fed-requires
feed_bytes-fed-requires c =
    let a = c.args in
    omega (arith, c.if-out-piece.false, answers_few (state_of a.s.controller) a.start a.memory.now (begun_of a.s) a.piece.now)
