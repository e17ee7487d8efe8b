use mathlib.Core.Path.{◌≡◌, refl, sym, ◌∙◌}
use mathlib.Core.Bool.{true≢false}
use Prim.Native.Nat.{◌+◌, ◌-◌}
use native.Mathlib.Nat.{le_refl}
use native.Mathlib.Omega.{arith}
use lib.ListN.{length, take, drop, length-drop}
use lib.Seq.{take_all}
use Rattle.frame_log.proofs.Room.{short, long, log-end, with-log}
use Rattle.input.specs.Results.{as_it_is}
use Rattle.input.proofs.Promised.{fed-short, fed-first, fed-over, fed-frames, refusal_after_fits}
use Rattle.input.proofs.feed.Goals as goal

pub returns-then-out-piece : goal.returns-then-out-piece
unfolding as_it_is
returns-then-out-piece c =
    let a = c.args in
    let few = short (length a.piece.now + 1) a.out.now (omega (arith, c.if-out-piece.true)) in
    record { fed = fed-short a.i a.start a.memory.now a.out.now a.piece.now few; refused = λ h. refl }

pub returns-in-FirstLine : goal.returns-in-FirstLine
returns-in-FirstLine c =
    let a = c.args in
    let enough = long (length a.piece.now + 1) a.out.now (omega (arith, c.if-out-piece.false)) in
    record {
      fed = rw c.in-FirstLine.is (fed-first a.i a.start a.memory.now a.out.now a.piece.now _ enough _ (rw c.in-FirstLine.is at c.set_line_passed-passed.ensures.passes));
      refused = λ h. absurd (true≢false (sym h ∙ enough));
    }

pub returns-in-Frames : goal.returns-in-Frames
returns-in-Frames c =
    let a = c.args in
    let piece = a.piece.now in
    let at = c.set_line_passed-passed.result.next in
    let enough = long (length piece + 1) a.out.now (omega (arith, c.if-out-piece.false)) in
    let tail : take (length piece - at) (drop at piece) ≡ drop at piece = take_all (length piece - at) (drop at piece) (omega (arith, length-drop at piece)) in
    let left = long (length (drop at piece)) a.out.now (omega (arith, c.if-out-piece.false, length-drop at piece)) in
    record {
      fed = rw c.in-Frames.is (fed-frames a.i a.start a.memory.now a.out.now piece (drop at piece) enough _ (rw c.in-Frames.is at c.set_line_passed-passed.ensures.passes) left (rw tail at c.feed-fed.ensures.fed));
      refused = λ h. absurd (true≢false (sym h ∙ enough));
    }

pub put_refusal_after-requires : goal.put_refusal_after-requires
put_refusal_after-requires c = omega (arith, c.if-out-piece.false)

pub returns-in-Over : goal.returns-in-Over
returns-in-Over c =
    let w = c.put_refusal_after.ensures in
    let a = c.args in
    let enough = long (length a.piece.now + 1) a.out.now (omega (arith, c.if-out-piece.false)) in
    record {
      fed = rw c.in-Over.is (fed-over a.i a.start a.memory.now a.out.now a.piece.now _ enough (rw c.in-Over.is at c.set_line_passed-passed.ensures.passes) _ _
          (log-end w) (with-log w (omega (arith, refusal_after_fits a.i.reading, c.if-out-piece.false))));
      refused = λ h. absurd (true≢false (sym h ∙ enough));
    }

pub slice_bounds-feed-count : goal.slice_bounds-feed-count
slice_bounds-feed-count c = c.set_line_passed-passed.ensures.within

pub slice_bounds-feed-start : goal.slice_bounds-feed-start
slice_bounds-feed-start c = c.set_line_passed-passed.ensures.within

pub slice_bounds-feed-end : goal.slice_bounds-feed-end
slice_bounds-feed-end c = le_refl _
