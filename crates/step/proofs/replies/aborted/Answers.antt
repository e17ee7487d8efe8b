use mathlib.Core.Path.{refl, ◌∙◌}
use mathlib.Core.List.{[], ◌∷◌}
use Rattle.machine.specs.Step.{answered, aborted_state}
use Rattle.bank.specs.Bank.{state_in}
use Rattle.bank.specs.Words.{state_of_words}
use Rattle.bank.proofs.Words.{stand, stand-state, stand-rights, stand_numbers}
use Rattle.step.proofs.replies.aborted.Goals as goal

pub returns : goal.returns
unfolding state_in aborted_state
returns c =
    let a = c.aborted-a in
    let i = c.aborted-i in
    let l = c.args.words.now in
    let e = stand_numbers ((25, i.result) ∷ (27, a.result) ∷ (36, 0) ∷ (37, 0) ∷ []) refl (stand l c.told-words) in
    record {
      state = stand-state e ∙ rw (i.ensures, a.ensures);
      answer = c.answered.ensures (aborted_state (state_of_words l)) (rw i.ensures) (rw a.ensures) ∙ (λ j. answered (aborted_state (state_of_words l)) (c.from.ensures j) (record { address = c.args.address; value = 0; enables = 0; changed = 0 }));
      rights = λ h. stand-rights e;
    }
