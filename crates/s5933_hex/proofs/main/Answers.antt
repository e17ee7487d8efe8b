use Rattle.std.proofs.Common.{ℕ}
use mathlib.Core.Path.{sym}
use lib.ListN.{length-replicate}
use Rattle.s5933_hex.proofs.main.Goals as goal

pub slice_bounds-read_and_answer-end : goal.slice_bounds-read_and_answer-end
slice_bounds-read_and_answer-end c = sym (length-replicate {A = ℕ} 1048577 0)
