-- Texts joined after an LF, and a text as a run of its steps.
use Rattle.std.proofs.Common.{◌≡◌, ℕ, Option, Some, None, List, [], ◌∷◌, ◌++◌, refl, ap, ◌∙◌}
use native.Mathlib.Decide.{ℕ_discrete}
use Rattle.machine.specs.State.{State}
use Rattle.machine.specs.Step.{step_of}
use Rattle.machine.specs.Event.{answers}
use Rattle.machine.specs.Run.{RunOutcome, run}
use Rattle.machine.specs.declared.Step.{Step}
use Rattle.machine.specs.declared.Answer.{Answer}
use Rattle.lines.specs.Lines.{lines_from, lines}
use Rattle.lines.proofs.Lines.{lines_lf, lines_other, lines_stop}
use Rattle.frame.specs.Frame.{frame_of, framed_outcome}
use Rattle.frame_log.specs.Log.{line_outcome, log_of, TextOutcome, lines_outcome, after}
use Rattle.frame_log.specs.Promises.{OneAnswerEach, TextsJoined, framed, steps_in, to_frame, to_frames, TextIsRun, TextRuns}
use Rattle.frame_log.proofs.TextOutcome.{log_append, told_length}

pub one_answer_each : OneAnswerEach
one_answer_each st start memory text = told_length st start memory (lines text)

-- ---- joined

join_step : (begun : List ℕ) (x : ℕ) (a b : List ℕ) → Dec (x ≡ 10)
    → lines_from [] (a ++ (10 ∷ []) ++ b) ≡ lines_from [] (a ++ (10 ∷ [])) ++ lines_from [] b
    → lines_from (begun ++ (x ∷ [])) (a ++ (10 ∷ []) ++ b) ≡ lines_from (begun ++ (x ∷ [])) (a ++ (10 ∷ [])) ++ lines_from [] b
    → lines_from begun (x ∷ (a ++ (10 ∷ []) ++ b)) ≡ lines_from begun (x ∷ (a ++ (10 ∷ []))) ++ lines_from [] b
join_step begun x a b (yes e) h k = rw (lines_lf begun x (a ++ (10 ∷ []) ++ b) e, lines_lf begun x (a ++ (10 ∷ [])) e) (ap (λ (ls : List (List ℕ)). begun ∷ ls) h)
join_step begun x a b (no e) h k = rw (lines_other begun x (a ++ (10 ∷ []) ++ b) e, lines_other begun x (a ++ (10 ∷ [])) e) k

lines_join : (begun a b : List ℕ) → lines_from begun (a ++ (10 ∷ []) ++ b) ≡ lines_from begun (a ++ (10 ∷ [])) ++ lines_from [] b
lines_join begun [] b = rw (lines_lf begun 10 b refl, lines_lf begun 10 [] refl, lines_stop [] refl)
lines_join begun (x ∷ a) b = join_step begun x a b (ℕ_discrete x 10) (lines_join [] a b) (lines_join (begun ++ (x ∷ [])) a b)

told_append : (st : State) (start : ℕ) (memory : List ℕ) (xs ys : List (List ℕ))
    → lines_outcome st start memory (xs ++ ys) ≡ after (lines_outcome st start memory xs).answers (lines_outcome (lines_outcome st start memory xs).state start (lines_outcome st start memory xs).memory ys)
unfolding lines_outcome
told_append st start memory [] ys = refl
told_append st start memory (line ∷ xs) ys =
    let o = line_outcome st start memory line in
    ap (λ (t : TextOutcome). after (o.answer ∷ []) t) (told_append o.state start o.memory xs ys)

pub texts_joined : TextsJoined
texts_joined set st start memory a b first e =
    let first-lines = lines (a ++ (10 ∷ [])) in
    let whole = ap (lines_outcome st start memory) (lines_join [] a b) ∙ told_append st start memory first-lines (lines b) in
    rw e
    (record {
      state = ap (λ (t : TextOutcome). t.state) whole;
      memory = ap (λ (t : TextOutcome). t.memory) whole;
      log = ap (λ (t : TextOutcome). log_of set t.answers) whole ∙ log_append set (lines_outcome st start memory first-lines).answers _;
    })

-- ---- as a run

module _ (st : State) (start : ℕ) (memory : List ℕ) (ls : List (List ℕ)) where
  -- what a line's outcome leaves to the others
  abbrev rest : Option Step → TextOutcome
  rest f = lines_outcome (framed_outcome f st start memory).state start (framed_outcome f st start memory).memory ls

  abbrev ran : Option Step → RunOutcome
  ran f = run st start memory (framed f ++ steps_in ls)

  runs-step : (f : Option Step) → TextIsRun ls (rest f) (run (framed_outcome f st start memory).state start (framed_outcome f st start memory).memory (steps_in ls))
      → ((rest f).state ≡ (ran f).state)
      × ((rest f).memory ≡ (ran f).memory)
      × (to_frame f (framed_outcome f st start memory).answer ++ to_frames ls (rest f).answers ≡ answers (ran f).events)
  unfolding framed_outcome
  runs-step (Some s) h = (h.state, h.memory, ap (λ (l : List Answer). (step_of st start memory s).answer ∷ l) h.answers)
  runs-step None h = (h.state, h.memory, h.answers)

pub text_runs : TextRuns
unfolding lines_outcome steps_in to_frames line_outcome
text_runs st start memory [] = record { state = refl; memory = refl; answers = refl }
text_runs st start memory (line ∷ ls) =
    let o = line_outcome st start memory line in
    let s = runs-step st start memory ls (frame_of line) (text_runs o.state start o.memory ls) in
    record { state = s.0; memory = s.1; answers = s.2 }
