use borrow.Author.Rules.{rules}
use mathlib.Core.Path.{refl, sym, ap, ◌∙◌}
use lib.ListN.{length, get_or, set}
use Rattle.machine.specs.Sides.{addon}
use Rattle.machine.specs.Cycles.{cycle_word, stored}
use Rattle.machine.specs.Step.{Reply, nothing, answered, done_reply, aborted_reply, aborted_state}
use Rattle.machine.specs.Refusals.{refusal_number}
use Rattle.refusal.specs.Codes.{cycle_code, cycle_by}
use Rattle.bank.specs.Bank.{state_in}
use Rattle.bank.specs.Words.{state_of_words}
use Rattle.step.specs.Parts.{settled_outcome, lane_changed, without_front, passed}
use Rattle.step.proofs.CycleRules.{cycle_inside, write-cycle-word, write-cycle-state, done-write-cycle, abort-step}
use Rattle.step.proofs.Answers.{never_done, only_13, both, cycle-coded, cycle_refused, abort_kept, done_kept}
use Rattle.step.proofs.cycles.write_cycle.Goals as goal

pub returns-in-Err-NoMemoryThere : goal.returns-in-Err-NoMemoryThere
unfolding state_in aborted_reply
returns-in-Err-NoMemoryThere c =
    let gone = c.aborted in
    let l = c.args.words.now in
    let b = c.bank_in-b in (
      λ offset enables value.
          (λ i. settled_outcome (record { state = gone.ensures.state i; memory = c.args.memory.now; answer = gone.ensures.answer i }))
          ∙ abort-step (state_of_words l) c.args.start c.args.memory.now (cycle_by addon offset enables value) (cycle_code addon (state_of_words l) c.args.start (length c.args.memory.now)) (get_or l 32 0)
          (sym (cycle-coded addon l c.args.start (length c.args.memory.now) b.result 13 b.ensures (λ mail places behind. sym (ap refusal_number c.in-Err-NoMemoryThere.field-0-is) ∙ c.in-Err-NoMemoryThere.ensures mail places behind))) refl,
      abort_kept l _ (aborted_state (state_of_words l)) _ gone.result gone.ensures.answer gone.ensures.rights,
    )

pub returns-in-Err : goal.returns-in-Err
returns-in-Err c =
    let l = c.args.words.now in
    let b = c.bank_in-b in
    let r = c.in-Err.r in
    cycle_refused addon l c.args.start c.args.memory.now b.result (refusal_number r) b.ensures c.in-Err.ensures c.refused.result (never_done r) (λ z. absurd (search (rules, only_13 r z)))
    (λ mail places behind. c.refused.ensures mail places behind ∙ (λ i. answered (state_in b.result mail places behind) (c.from.ensures i) nothing))

pub bounds-memory-at : goal.bounds-memory-at
unfolding state_in
bounds-memory-at c =
    let l = c.args.words.now in
    let b = c.bank_in-b in
    rw c.place-at.ensures (cycle_inside addon (state_of_words l) c.args.start (length c.args.memory.now) (sym (cycle-coded addon l c.args.start (length c.args.memory.now) b.result 0 b.ensures c.in-Ok.ensures)))

pub bounds-memory-at-2 : goal.bounds-memory-at-2
unfolding state_in
bounds-memory-at-2 c =
    let l = c.args.words.now in
    let b = c.bank_in-b in
    rw c.place-at.ensures (cycle_inside addon (state_of_words l) c.args.start (length c.args.memory.now) (sym (cycle-coded addon l c.args.start (length c.args.memory.now) b.result 0 b.ensures c.in-Ok.ensures)))

pub returns : goal.returns
unfolding state_in done_reply cycle_word stored
returns c =
    let l = c.args.words.now in
    let memory = c.args.memory.now in
    let start = c.args.start in
    let b = c.bank_in-b in
    let st = state_of_words l in
    let zero = sym (cycle-coded addon l start (length memory) b.result 0 b.ensures c.in-Ok.ensures) in
    let x = c.take_word-front in
    let word = x.ensures.word (write-cycle-word st start (length memory) zero) in
    let low = c.low_enables-enables in
    let merged = c.merged in
    let place = c.place-at in
    let by = both (lane_changed addon without_front) (passed addon) l x.new.words c.pass.new.words x.ensures.state c.pass.ensures in
    let reply : Reply = record { address = get_or l 32 0; value = x.result; enables = low.result; changed = 0 } in
    let a = c.moved in (
      λ offset enables value.
          (λ j. settled_outcome (record { state = by.state j; memory = set memory place.result merged.result; answer = a.result }))
          ∙ done-write-cycle st start memory (cycle_by addon offset enables value) (cycle_code addon st start (length memory)) _ reply a.result (set memory place.result merged.result)
          zero refl
          (λ j. record { address = get_or l 32 0; value = word j; enables = low.ensures j; changed = 0 })
          (write-cycle-state st start (length memory) offset enables value reply.value zero)
          (simp (merged.ensures, low.ensures, word, place.ensures))
          (a.ensures ∙ (λ j. answered (by.state j) 0 reply)),
      done_kept l c.pass.new.words (state_of_words c.pass.new.words) reply a.result a.ensures by.rights,
    )
