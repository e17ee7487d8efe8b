use Rattle.std.proofs.Common.{ℕ}
use mathlib.Core.Path.{sym}
use lib.ListN.{length-replicate}
use lib.Seq.{length-take-le}
use Rattle.states.proofs.main.Goals as goal

pub slice_bounds-read_full-end : goal.slice_bounds-read_full-end
slice_bounds-read_full-end c = sym (length-replicate {A = ℕ} 524288 0)

pub slice_bounds-text-end : goal.slice_bounds-text-end
slice_bounds-text-end c = c.read_full-n.ensures

pub slice_bounds-run_lines-end : goal.slice_bounds-run_lines-end
slice_bounds-run_lines-end c = sym (length-take-le _ _ c.read_full-n.ensures)
