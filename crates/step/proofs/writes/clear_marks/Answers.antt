use mathlib.Core.Path.{refl, sym, ◌∙◌}
use mathlib.Core.List.{[], ◌∷◌}
use Rattle.bank.specs.Bank.{state_in}
use Rattle.bank.proofs.Words.{stand, stand-state, stand-rights, stand_numbers}
use Rattle.step.proofs.writes.clear_marks.Goals as goal

pub returns-then-clears_marks : goal.returns-then-clears_marks
unfolding state_in
returns-then-clears_marks c =
    let l = c.args.words.now in
    let e = stand_numbers ((24, 0) ∷ []) refl (stand l c.told-words) in
    record { state = stand-state e ∙ rw (sym c.clears_marks.ensures ∙ c.if-clears_marks.true); rights = λ h. stand-rights e ∙ h }

pub returns-else-clears_marks : goal.returns-else-clears_marks
unfolding state_in
returns-else-clears_marks c = record { state = rw (sym c.clears_marks.ensures ∙ c.if-clears_marks.false); rights = λ h. h }
