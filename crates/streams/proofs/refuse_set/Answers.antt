use mathlib.Core.Path.{sym}
use lib.Seq.{length-take-le}
use Rattle.logline.proofs.Room.{line-within}
use Rattle.streams.proofs.refuse_set.Goals as goal

pub slice_bounds-out-end : goal.slice_bounds-out-end
slice_bounds-out-end g c = line-within _ _ _ c.put_unknown_set-n.ensures

pub slice_bounds-write_all-end : goal.slice_bounds-write_all-end
slice_bounds-write_all-end g c = sym (length-take-le _ _ (line-within _ _ _ c.put_unknown_set-n.ensures))
