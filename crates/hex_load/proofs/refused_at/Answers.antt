use Rattle.std.proofs.Common.{sym, arith, le_refl}
use Rattle.records.specs.Load.{refused_at}
use Rattle.hex_load.proofs.refused_at.Goals as goal

pub returns-in_default : goal.returns-in_default
unfolding refused_at
returns-in_default c = (rw c.in_default.ensures.0, omega arith)

pub returns-in-Ok-check_text : goal.returns-in-Ok-check_text
unfolding refused_at
returns-in-Ok-check_text c =
    let s = c.in-Ok.ensures in
    (rw (s.0, ← s.1, ← s.2) (sym c.in-Ok-check_text.ensures.1), le_refl _)

pub returns-in-Err : goal.returns-in-Err
unfolding refused_at
returns-in-Err c =
    let s = c.in-Ok.ensures in
    let e = c.in-Err.ensures in
    (rw (s.0, ← s.1, ← s.2) (sym e.2), e.3)
