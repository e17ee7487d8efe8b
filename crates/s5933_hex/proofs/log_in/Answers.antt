use Rattle.std.proofs.Common.{length}
use Rattle.frame_log.specs.Results.{is_within}
use mathlib.Core.Path.{sym}
use borrow.Author.Tests.{leb-true}
use lib.Seq.{length-take-le}
use Rattle.s5933_hex.proofs.log_in.Goals as goal

pub slice_bounds-result-end : goal.slice_bounds-result-end
unfolding is_within
slice_bounds-result-end c =
    sym (length-take-le c.in-Ok.n c.args.out.now (leb-true c.in-Ok.n (length c.args.out.now) (rw c.in-Ok.is at c.requires)))
