use mathlib.Core.Path.{refl}
use Rattle.bank.specs.Bank.{state_in}
use Rattle.step.proofs.replies.refused.Goals as goal

pub returns : goal.returns
unfolding state_in
returns c = λ mail pci addon. c.answered.ensures (state_in c.args.b mail pci addon) refl refl
