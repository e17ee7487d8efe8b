-- Lines told one after the other, and the log of their answers.
--     log_append, log_length    the log of answers joined; 41 bytes an answer at most
--     told_length               one answer for each line
use Rattle.std.proofs.Common.{◌≡◌, ℕ, ◌*◌, ◌≤◌, List, [], ◌∷◌, ◌++◌, length, sym, refl, ap, ◌∙◌, append_assoc, append-nil, zero-le, arith, length-append}
use Rattle.machine.specs.State.{State}
use Rattle.machine.specs.declared.Answer.{Answer}
use Rattle.logline.specs.LogLine.{log_line, line_room}
use Rattle.logline.proofs.Labels.{line_fits}
use Rattle.frame_log.specs.Log.{line_outcome, log_of, lines_outcome}
use Rattle.frame_log.specs.Promises.{LogAppend}

pub log_append : LogAppend
unfolding log_of
log_append set [] ys = refl
log_append set (a ∷ xs) ys = ap (λ (l : List ℕ). log_line set a ++ l) (log_append set xs ys) ∙ sym (append_assoc (log_line set a) (log_of set xs) (log_of set ys))

pub log_one : (set : ℕ) (a : Answer) → log_of set (a ∷ []) ≡ log_line set a
unfolding log_of
log_one set a = append-nil (log_line set a)

pub log_length : (set : ℕ) (xs : List Answer) → length (log_of set xs) ≤ line_room * length xs
unfolding log_of
log_length set [] = zero-le
log_length set (a ∷ xs) = rw length-append (omega (arith, line_fits set a, log_length set xs))

pub told_length : (st : State) (start : ℕ) (memory : List ℕ) (ls : List (List ℕ)) → length (lines_outcome st start memory ls).answers ≡ length ls
unfolding lines_outcome
told_length st start memory [] = refl
told_length st start memory (line ∷ ls) =
    let o = line_outcome st start memory line in
    let e = told_length o.state start o.memory ls in omega arith
