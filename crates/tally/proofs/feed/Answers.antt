use Rattle.std.proofs.Common.{◌≡◌, ◌-◌, length, take, drop, ap, ◌∙◌, arith, length-drop, take_all}
use Rattle.frame_log.specs.Counts.{CountOutcome}
use Rattle.input.specs.declared.Reading.TheVariants.{Frames}
use Rattle.tally.specs.Tally.{tally_of, count_past}
use Rattle.tally.proofs.Fed.{fed_is, past_stays}
use Rattle.tally.proofs.feed.Goals as goal

pub returns-in-Frames : goal.returns-in-Frames
unfolding count_past
returns-in-Frames c =
    let a = c.args in
    let piece = a.piece.now in
    let at = c.set_line_passed-passed.result.next in
    let tail : take (length piece - at) (drop at piece) ≡ drop at piece = take_all (length piece - at) (drop at piece) (omega (arith, length-drop at piece)) in
    rw c.in-Frames.is
    (ap (λ (k : CountOutcome). record { reading = Frames c.in-Frames.field-0; count = k }) (rw tail at c.count-counted.ensures)
    ∙ fed_is (tally_of a.t a.memory.now) a.start piece _ (rw c.in-Frames.is at c.set_line_passed-passed.ensures.passes))

pub returns-in_default : goal.returns-in_default
returns-in_default c =
    let a = c.args in
    let p = c.set_line_passed-passed in
    let t = tally_of a.t a.memory.now in
    ap (λ (k : CountOutcome). record { reading = p.result.reading; count = k }) (past_stays p.result.reading t.count a.start (drop p.result.next a.piece.now) c.in_default.not-Frames)
    ∙ fed_is t a.start a.piece.now _ p.ensures.passes
