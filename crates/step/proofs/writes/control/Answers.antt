use Rattle.machine.specs.Access.{access_of}
use Rattle.machine.specs.Sides.{pci, addon}
use Rattle.step.specs.Parts.{marks_cleared, lane_changed, cleared_lane, mcsr_stored}
use Rattle.step.proofs.Stored.{mcsr_put}
use Rattle.step.proofs.Answers.{both}
use Rattle.step.proofs.writes.control.Goals as goal

pub returns : goal.returns
returns c =
    let x = access_of c.args.s in
    let l = c.args.words.now in
    both _ (lane_changed addon (cleared_lane addon x)) l c.clear_fifo.new.words c.clear_fifo-2.new.words
    (both _ (lane_changed pci (cleared_lane pci x)) l c.clear_marks.new.words c.clear_fifo.new.words (both (mcsr_stored x) (marks_cleared x) l _ c.clear_marks.new.words (rw c.mcsr_after.ensures (mcsr_put l c.told-words x)) c.clear_marks.ensures) c.clear_fifo.ensures)
    c.clear_fifo-2.ensures
