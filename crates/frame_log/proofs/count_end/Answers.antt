use Rattle.std.proofs.Common.{◌<◌, length, sym, ◌∙◌, arith, length-take}
use Rattle.controller.specs.Controller.{state_of}
use Rattle.frame_log.specs.Results.{begun_of}
use Rattle.frame_log.proofs.Carried.{bytes_length}
use Rattle.frame_log.proofs.Counts.{end_counts, end_none}
use Rattle.frame_log.proofs.count_end.Goals as goal

pub returns-then-s-eq0 : goal.returns-then-s-eq0
unfolding begun_of
returns-then-s-eq0 c =
    let a = c.args in
    rw c.if-s-eq0.true (sym (end_none (state_of a.s.controller) a.start a.memory.now a.before.writes a.before.reads (omega arith) (omega arith)))

pub returns : goal.returns
unfolding begun_of
returns c =
    let a = c.args in
    let begun : 0 < length (begun_of a.s) = omega (arith, length-take a.s.len a.s.bytes, bytes_length a.s c.well_formed.0, c.if-s-eq0.false) in
    c.count.ensures ∙ end_counts (state_of a.s.controller) a.start a.memory.now (begun_of a.s) a.before.writes a.before.reads begun
