use Rattle.std.proofs.Common.{[], ◌++◌, length, sym, refl, ap, ◌∙◌, arith}
use Rattle.machine.specs.Step.{Outcome}
use Rattle.bank.specs.Words.{mail_in, pci_in, addon_in, state_of_words}
use Rattle.refusal.specs.Codes.{form_code}
use Rattle.step.proofs.Answers.{at_words}
use Rattle.frame_log.specs.Counts.{events_of, cycles_of, count_of}
use Rattle.frame_log.proofs.Counts.{run_line, begun_line, run_none, begun_none, counts_more}
use Rattle.frame_log.proofs.Forms.{framed_form}
use Rattle.frame_log.proofs.count.Goals as goal

pub loop-said-init : goal.loop-said-init
unfolding cycles_of
loop-said-init c =
    let w = c.words_of-words in
    let b = c.bank_in in
    let p = c.begin-progress in
    let l = w.result in (
      [],
      refl,
      rw (w.ensures.1.1, p.ensures.0, p.ensures.1),
      rw (w.ensures.1.1, p.ensures.0, p.ensures.1),
      c.code-form.ensures ∙ c.form.ensures (mail_in l) (pci_in l) (addon_in l) ∙ (λ i. form_code (at_words l b.result b.ensures i) c.args.start (length c.args.memory.now)),
      omega arith,
      omega arith,
    )

pub loop-said-preserved : goal.loop-said-preserved
loop-said-preserved c =
    let a = c.args in
    let v = c.loop-said.invariant in
    let p = c.loop-said.progress in
    let q = c.next_line.new.self in
    let st = state_of_words c.loop-said.words in
    let told = c.answer_words-a.ensures in
    let said = c.in-Some.said in
    let one = c.answer_words-a.result in
    let same = c.answer_words-a.auto in (
      v.0 ++ events_of said one,
      same.memory ∙ v.1,
      v.2 ∙ run_line p q a.piece.now st a.start c.loop-said.memory said c.in-Some.ensures _ told v.0,
      v.3 ∙ begun_line p q a.piece.now st a.start c.loop-said.memory said c.in-Some.ensures _ told,
      rw same.memory (v.4 ∙ sym (framed_form said st a.start c.loop-said.memory) ∙ ap (λ (o : Outcome). form_code o.state a.start (length c.loop-said.memory)) (sym told)),
      counts_more 4 _ v.0 said one _ _ _ v.5 refl c.with_line-cycles.ensures.writes,
      counts_more 5 _ v.0 said one _ _ _ v.6 refl c.with_line-cycles.ensures.reads,
    )

pub returns : goal.returns
unfolding count_of
returns c =
    let a = c.args in
    let v = c.loop-said.invariant in
    let p = c.loop-said.progress in
    let q = c.next_line.new.self in
    let st = state_of_words c.loop-said.words in
    let ran = v.2 ∙ run_none p q a.piece.now st a.start c.loop-said.memory c.in_default.ensures v.0 in
    let begun = v.3 ∙ begun_none p q a.piece.now st a.start c.loop-said.memory c.in_default.ensures in
    rw (ran, begun, c.end.ensures.0, c.end.ensures.1, ← v.5, ← v.6)
