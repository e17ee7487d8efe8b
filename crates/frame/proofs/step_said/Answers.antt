use Rattle.std.proofs.Common.{◌≡◌, rules, sym, ◌∙◌, length}
use Rattle.frame.proofs.Cut.{not_high, not_low, told}
use Rattle.frame.proofs.step_said.Goals as goal

pub returns-in_err-high : goal.returns-in_err-high
returns-in_err-high c =
    let n : length c.args.line.now ≡ 13 = search rules in
    rw c.from_residual.ensures (not_high _ n (sym c.number.ensures ∙ c.in_err-high.was))

pub returns-in_err-value : goal.returns-in_err-value
returns-in_err-value c =
    let n : length c.args.line.now ≡ 13 = search rules in
    rw c.from_residual-in_err-value.ensures (not_low _ n (sym c.number-2.ensures ∙ c.in_err-value.was))

pub returns : goal.returns
returns c =
    let n : length c.args.line.now ≡ 13 = search rules in
    told _ n _ _ (sym c.number.ensures ∙ c.in_ok-high.was) (sym c.number-2.ensures ∙ c.in_ok-value.was)
