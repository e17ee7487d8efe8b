use mathlib.Core.Path.{refl}
use Rattle.bank.specs.Bank.{state_in}
use Rattle.bank.specs.Words.{state_of_words}
use Rattle.step.proofs.replies.done.Goals as goal

pub returns : goal.returns
unfolding state_in
returns c = c.answered.ensures (state_of_words c.args.words.now) refl refl
