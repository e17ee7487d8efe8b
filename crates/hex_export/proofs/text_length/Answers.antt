use Rattle.std.proofs.Common.{◌≡◌, ◌-◌, ◌*◌, cond}
use lib.Dec.{eqb}
use borrow.Author.Tests.{eq-eqb, ne_eqb}
use Rattle.records.specs.Export.{export_length}
use Rattle.hex_export.proofs.text_length.Goals.{then-second-eq0, else-second-eq0}
use Rattle.hex_export.proofs.text_length.Goals as goal

pub returns : goal.returns
unfolding export_length
returns c =
    let second = 4 * c.args.words - c.min-first.result in
    let upper : c.if-second-eq0.upper ≡ cond (eqb second 0) 0 16 = elim c.if-second-eq0.branch [
      | then-second-eq0 w ↦ rw (w.upper-is, eq-eqb second 0 w.if-second-eq0.true)
      | else-second-eq0 w ↦ rw (w.upper-is, ne_eqb second 0 w.if-second-eq0.false)
    ] in
    rw (upper, c.min-first.ensures)
