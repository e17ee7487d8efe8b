use Rattle.std.proofs.Common.{Option, rules, sym, refl, ap, ◌∙◌}
use Rattle.machine.specs.declared.Step.{Step}
use Rattle.frame.specs.Frame.{framed_outcome}
use Rattle.bank.specs.Bank.{state_in}
use Rattle.bank.specs.Words.{state_of_words}
use Rattle.step.proofs.Codes.{told_as}
use Rattle.frame_log.proofs.answer_words.Goals as goal

pub returns-in-Some : goal.returns-in-Some
unfolding framed_outcome
returns-in-Some c =
    let a = c.args in
    told_as _ _ _ _ _ _ c.requires (c.in_words.ensures.outcome (search rules))
    ∙ ap (λ (x : Option Step). framed_outcome x (state_of_words a.words.now) a.start a.memory.now) (sym c.in-Some.is)

pub returns-in-None : goal.returns-in-None
unfolding framed_outcome state_in
returns-in-None c =
    let a = c.args in
    rw (c.not_a_frame.ensures (state_of_words a.words.now) refl refl)
    (ap (λ (x : Option Step). framed_outcome x (state_of_words a.words.now) a.start a.memory.now) (sym c.in-None.is))
