use Rattle.std.proofs.Common.{sym, ap}
use Rattle.input.specs.Input.{has_set}
use Rattle.input.proofs.Heard.{no_number}
use Rattle.input.proofs.has_set.Goals as goal

pub returns-in-Number : goal.returns-in-Number
unfolding has_set
returns-in-Number c = ap has_set (sym c.in-Number.is)

pub returns-in_default : goal.returns-in_default
returns-in_default c = no_number c.args.line c.in_default.not-Number
