use mathlib.Core.Path.{ap}
use Rattle.lines.specs.Lines.{place_at}
use Rattle.lines.proofs.Positions.{part_is, start_is}
use Rattle.lines.proofs.line_at.Goals as goal

pub returns : goal.returns
returns c =
    let a = c.args in
    let first = c.first_lf.ensures in
    record {
      bytes = part_is a.text.now a.at c.min.result c.min.ensures c.unwrap_or.result (rw first at c.unwrap_or.ensures);
      place = ap (place_at a.text.ref_ptr) (start_is a.text.now a.at c.min.result c.min.ensures);
    }
