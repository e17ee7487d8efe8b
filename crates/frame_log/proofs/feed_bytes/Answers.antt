use Rattle.std.proofs.Common.{◌+◌, ◌≤◌, [], ◌∷◌, ◌++◌, length, sym, refl, ap, ◌∙◌, arith}
use Rattle.machine.specs.Step.{Outcome}
use Rattle.bank.specs.Words.{mail_in, pci_in, addon_in, state_of_words}
use Rattle.refusal.specs.Codes.{form_code}
use Rattle.step.proofs.Answers.{at_words}
use Rattle.logline.specs.LogLine.{line_room}
use Rattle.logline.proofs.Room.{in-room}
use Rattle.output.proofs.Wrote.{wrote_none, wrote_then}
use Rattle.frame_log.specs.Log.{log_of}
use Rattle.frame_log.proofs.TextOutcome.{log_append, log_one, log_length}
use Rattle.frame_log.proofs.Turns.{line_told, none_told, more_answers}
use Rattle.frame_log.proofs.Forms.{framed_form}
use Rattle.frame_log.proofs.feed_bytes.Goals as goal

pub loop-said-init : goal.loop-said-init
unfolding log_of
loop-said-init c =
    let w = c.words_of-words in
    let b = c.bank_in in
    let l = w.result in (
      [],
      refl,
      refl,
      wrote_none,
      rw (w.ensures.1.1, c.begin-progress.ensures.0, c.begin-progress.ensures.1),
      c.code-form.ensures ∙ c.form.ensures (mail_in l) (pci_in l) (addon_in l) ∙ (λ i. form_code (at_words l b.result b.ensures i) c.args.start (length c.args.memory.now)),
    )

pub loop-said-preserved : goal.loop-said-preserved
loop-said-preserved c =
    let a = c.args in
    let v = c.loop-said.invariant in
    let st = state_of_words c.loop-said.words in
    let told = c.answer_words-a.ensures in
    let fed = v.4 ∙ line_told c.loop-said.progress c.next_line.new.self a.piece.now st a.start c.loop-said.memory v.0 c.in-Some.said c.in-Some.ensures _ told in
    let room : c.loop-said.next + line_room ≤ length c.loop-said.out = omega (arith, c.requires, v.3.next, log_length a.set v.0, more_answers _ v.0 _ _ fed, v.1) in
    let one = c.answer_words-a.result in
    let w = rw (in-room a.set c.loop-said.out c.loop-said.next one room, ← log_one a.set one) at c.put_line-next.ensures in
    let same = c.answer_words-a.auto in (
      v.0 ++ (one ∷ []),
      c.put_line-next.auto.out ∙ v.1,
      same.memory ∙ v.2,
      rw log_append (wrote_then v.3 w),
      fed,
      rw same.memory (v.5 ∙ sym (framed_form c.in-Some.said st a.start c.loop-said.memory) ∙ ap (λ (o : Outcome). form_code o.state a.start (length c.loop-said.memory)) (sym told)),
    )

pub returns : goal.returns
returns c =
    let a = c.args in
    let v = c.loop-said.invariant in
    let e = v.4 ∙ none_told c.loop-said.progress c.next_line.new.self a.piece.now (state_of_words c.loop-said.words) a.start c.loop-said.memory v.0 c.in_default.ensures in
    rw e (record { state = c.end.ensures.0; memory = refl; begun = c.end.ensures.1; log = v.3 })
