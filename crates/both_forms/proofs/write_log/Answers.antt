use Rattle.std.proofs.Common.{arith}
use mathlib.Core.Path.{sym}
use lib.Seq.{length-take-le}
use Rattle.lines.proofs.Lines.{past_is}
use Rattle.logline.proofs.Room.{line-within}
use Rattle.both_forms.proofs.write_log.Goals as goal

pub slice_bounds-out-end : goal.slice_bounds-out-end
slice_bounds-out-end g c = line-within _ _ _ c.put_line-n.ensures

pub slice_bounds-write_all-end : goal.slice_bounds-write_all-end
slice_bounds-write_all-end g c = sym (length-take-le _ _ (line-within _ _ _ c.put_line-n.ensures))

pub loop-at-smaller : goal.loop-at-smaller
loop-at-smaller g c = omega (arith, c.past_line-at.ensures, past_is c.args.text.now c.loop-at.at c.loop-at-test.true)
