use Rattle.std.proofs.Common.{◌≡◌, ◌+◌, ◌-◌, ◌%◌, ◌^◌, List, length, drop}
use Rattle.machine.specs.Event.{Event}
use Rattle.controller.specs.Controller.{state_of}
use Rattle.bank.specs.Words.{state_of_words}
use Rattle.refusal.specs.Codes.{form_code}
use Rattle.frame_log.specs.Log.{piece_outcome}
use Rattle.frame_log.specs.Counts.{cycles_of, piece_run}
use Rattle.frame_log.specs.Results.{begun_of, begun_at}
use Rattle.frame_log.proofs.Counts.{after_run}
use Rattle.frame_log.proofs.count.Given as goal

abbrev pub invariant-loop-said : goal.invariant-loop-said
invariant-loop-said l =
    (done : List Event)
    × (length l.memory ≡ length l.initial.memory)
    × (piece_run (state_of l.fn.s.controller) l.start l.initial.memory (begun_of l.fn.s) l.piece ≡ after_run done (piece_run (state_of_words l.words) l.start l.memory (begun_at l.progress) (drop l.progress.at l.piece)))
    × ((piece_outcome (state_of l.fn.s.controller) l.start l.initial.memory (begun_of l.fn.s) l.piece).begun ≡ (piece_outcome (state_of_words l.words) l.start l.memory (begun_at l.progress) (drop l.progress.at l.piece)).begun)
    × (l.form ≡ form_code (state_of_words l.words) l.start (length l.memory))
    × (l.cycles.writes ≡ (l.fn.before.writes + cycles_of 4 done) % 2 ^ 32)
    × (l.cycles.reads ≡ (l.fn.before.reads + cycles_of 5 done) % 2 ^ 32)

abbrev pub decreases-loop-said : goal.decreases-loop-said
decreases-loop-said l = length l.piece - l.progress.at
