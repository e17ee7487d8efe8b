use Rattle.std.proofs.Common.{sym, true≢false, ◌∙◌}
use Rattle.frame.proofs.Stands.{long_none}
use Rattle.frame.proofs.frame.Goals as goal

pub returns-in_err-ok : goal.returns-in_err-ok
returns-in_err-ok c = rw c.from_residual.ensures (long_none _ (λ e. true≢false (sym (c.try_into.ensures.0 e) ∙ sym c.in_err-ok.ensures.variant)))
