use Rattle.std.proofs.Common.{[], length, sym, refl, ◌∙◌, true≢false, arith}
use Rattle.controller.specs.Controller.{state_of}
use Rattle.lines.specs.Lines.{lines}
use Rattle.frame_log.specs.Log.{text_outcome, piece_outcome}
use Rattle.frame_log.specs.Results.{text_run}
use Rattle.frame_log.proofs.TextOutcome.{told_length, log_length}
use Rattle.frame_log.proofs.Room.{short, long, log-end, with-log}
use Rattle.frame_log.proofs.Ends.{text-fed, fed-answers, then_ends}
use Rattle.frame_log.proofs.run.Goals as goal

pub returns-then-out-n : goal.returns-then-out-n
unfolding text_run
returns-then-out-n c =
    let a = c.args in
    let few = short (length (lines a.text.now)) a.out.now (rw (← c.line_count-n.ensures) c.if-out-n.true) in
    record { ran = simp few; refused = λ e. refl }

pub feed_bytes-fed-requires : goal.feed_bytes-fed-requires
feed_bytes-fed-requires c =
    let a = c.args in
    rw (c.not_begun.ensures.0, c.not_begun.ensures.1)
    (omega (arith, c.if-out-n.false, c.line_count-n.ensures, fed-answers (state_of a.c) a.start a.memory.now a.text.now))

pub end_line-ended-requires : goal.end_line-ended-requires
end_line-ended-requires c =
    let a = c.args in
    let w = rw (c.not_begun.ensures.0, c.not_begun.ensures.1) at c.feed_bytes-fed.ensures in
    let fed = piece_outcome (state_of a.c) a.start a.memory.now [] a.text.now in
    rw (w.state, w.memory, w.begun)
    (omega (arith, c.if-out-n.false, c.line_count-n.ensures, fed-answers (state_of a.c) a.start a.memory.now a.text.now, w.log.next, log_length a.set fed.answers, c.feed_bytes-fed.auto.out))

pub returns : goal.returns
unfolding text_run
returns c =
    let a = c.args in
    let text = a.text.now in
    let enough = long (length (lines text)) a.out.now (rw (← c.line_count-n.ensures) c.if-out-n.false) in
    let fed = rw (c.not_begun.ensures.0, c.not_begun.ensures.1) at c.feed_bytes-fed.ensures in
    let w = rw (← text-fed (state_of a.c) a.start a.memory.now text) at (then_ends a.set a.start fed c.end_line-ended.ensures) in
    let t = text_outcome (state_of a.c) a.start a.memory.now text in
    let m = told_length (state_of a.c) a.start a.memory.now (lines text) in
    record {
      ran = rw (w.state, w.memory, log-end w.log, with-log w.log (omega (arith, log_length a.set t.answers, m, c.if-out-n.false, c.line_count-n.ensures))) (simp enough);
      refused = λ e. absurd (true≢false (sym e ∙ enough));
    }
