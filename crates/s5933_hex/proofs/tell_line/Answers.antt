use Rattle.std.proofs.Common.{arith}
use lib.ListN.{take, length-take}
use Rattle.lines.proofs.Lines.{lines_few}
use Rattle.s5933_hex.proofs.tell_line.Goals as goal

pub overflow_add-line : goal.overflow_add-line
overflow_add-line g c =
    let n = c.line_count in
    let t = c.args.text in
    record { fits = omega (arith, n.ensures, lines_few (take c.refused_at-at.result t.now), length-take c.refused_at-at.result t.now) }
