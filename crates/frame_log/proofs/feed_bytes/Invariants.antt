use Rattle.std.proofs.Common.{◌≡◌, ◌-◌, List, length, drop}
use Rattle.machine.specs.declared.Answer.{Answer}
use Rattle.controller.specs.Controller.{state_of}
use Rattle.bank.specs.Words.{state_of_words}
use Rattle.refusal.specs.Codes.{form_code}
use Rattle.output.specs.Wrote.{Wrote}
use Rattle.frame_log.specs.Log.{log_of, piece_outcome}
use Rattle.frame_log.specs.Results.{begun_of, begun_at}
use Rattle.frame_log.proofs.Carried.{after_fed}
use Rattle.frame_log.proofs.feed_bytes.Given as goal

abbrev pub invariant-loop-said : goal.invariant-loop-said
invariant-loop-said l =
    (done : List Answer)
    × (length l.out ≡ length l.initial.out)
    × (length l.memory ≡ length l.initial.memory)
    × Wrote l.initial.out l.at (log_of l.set done) l.next l.out
    × (piece_outcome (state_of l.fn.s.controller) l.start l.initial.memory (begun_of l.fn.s) l.piece ≡ after_fed done (piece_outcome (state_of_words l.words) l.start l.memory (begun_at l.progress) (drop l.progress.at l.piece)))
    × (l.form ≡ form_code (state_of_words l.words) l.start (length l.memory))

abbrev pub decreases-loop-said : goal.decreases-loop-said
decreases-loop-said l = length l.piece - l.progress.at
