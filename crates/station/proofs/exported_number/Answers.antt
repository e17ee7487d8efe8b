use mathlib.Core.Path.{subst}
use native.Mathlib.Omega.{arith}
use mir.Syntax.{w64}
use mir.ValLaws.{to_z_pos}
use Rattle.station.specs.HexCalls.{Fits, exported_number}
use Rattle.station.proofs.HexCalls.{minus_fits, minus_back}
use Rattle.station.proofs.exported_number.Goals as goal

pub overflow_cast-result : goal.overflow_cast-result
overflow_cast-result c = record { sfits = subst Fits c.in-Ok.is c.requires }

pub overflow_sub-result : goal.overflow_sub-result
overflow_sub-result c = minus_fits c.from.result (omega arith)

pub returns-in-Ok : goal.returns-in-Ok
unfolding exported_number
returns-in-Ok c = rw c.in-Ok.is (to_z_pos w64 c.in-Ok.n (subst Fits c.in-Ok.is c.requires))

pub returns-in-Err : goal.returns-in-Err
unfolding exported_number
returns-in-Err c = rw (c.in-Err.is, ← c.from.ensures) (minus_back c.from.result (omega arith))
