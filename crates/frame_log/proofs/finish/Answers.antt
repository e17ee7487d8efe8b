use Rattle.std.proofs.Common.{ℕ, take, sym, ap, ◌∙◌}
use Rattle.frame_log.specs.Results.{begun_of}
use Rattle.frame_log.proofs.Carried.{bytes_length, clip}
use Rattle.frame_log.proofs.finish.Goals as goal

pub returns : goal.returns
unfolding begun_of
returns c =
    let s = c.args.s in
    let kept = sym (clip s.bytes (bytes_length s c.well_formed.0) s.len) ∙ ap (λ (n : ℕ). take n s.bytes) (sym c.min-len.ensures) in
    rw kept c.run.ensures
