use Rattle.std.proofs.Common.{arith}
use Rattle.s5933_hex.proofs.Past.{past_first}
use Rattle.s5933_hex.proofs.first_line.Goals as goal

pub slice_bounds-result-count : goal.slice_bounds-result-count
slice_bounds-result-count c = omega (arith, c.past_line.ensures, past_first c.args.text.now)

pub slice_bounds-result-start : goal.slice_bounds-result-start
slice_bounds-result-start c = omega (arith, c.past_line.ensures, past_first c.args.text.now)
