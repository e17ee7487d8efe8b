use mathlib.Core.Path.{ap, ◌∙◌}
use lib.ListN.{length}
use Rattle.output.proofs.Wrote.{wrote_none}
use Rattle.hex_export.proofs.Texts.{same_none, other_one, length_upper}
use native.Mathlib.Omega.{arith}
use Rattle.hex_export.proofs.put_changed.Goals as goal

pub returns-then-next-upper : goal.returns-then-next-upper
returns-then-next-upper c = let a = c.args in rw (same_none a.upper a.next c.if-next-upper.true) wrote_none

pub put_upper-requires : goal.put_upper-requires
put_upper-requires c =
    let a = c.args in
    let e = ap length (other_one a.upper a.next c.if-next-upper.false) ∙ length_upper a.next in
    omega (arith, e, c.requires)

pub returns : goal.returns
returns c =
    let a = c.args in
    rw (other_one a.upper a.next c.if-next-upper.false) c.put_upper.ensures
