-- Every answer to a text is given, and the digits of a log line are the answer as the log shows it.
use Prim.Native.Nat.{ℕ, ◌^◌}
use mathlib.Core.Path.{◌≡◌, refl}
use mathlib.Core.List.{List, [], ◌∷◌}
use Rattle.machine.specs.State.{State}
use Rattle.machine.specs.Step.{step_of}
use Rattle.machine.specs.declared.Answer.{Answer}
use Rattle.promises.specs.Fits.{WordsFit, StateFits, answer_codes, AnswerFits, Given, to_step, to_no_frame}
use Rattle.promises.proofs.Answers.{in_list}
use Rattle.promises.proofs.Fits.{fit_kept, given_fits}
use Rattle.lines.specs.Lines.{lines}
use Rattle.frame.specs.Frame.{frame_of, framed_outcome}
use Rattle.std.proofs.Common.{Option, Some, None}
use Rattle.machine.specs.declared.Step.{Step}
use Rattle.frame.proofs.Exactly.{frame_only}
use Rattle.logline.proofs.Keys.{InDigits, digits_are_key}
use Rattle.frame_log.specs.Log.{line_outcome, lines_outcome}
use Rattle.keys.specs.Keys.{NumbersAreKey, AllGiven, TextGiven}

in_digits : (a : Answer) → AnswerFits a → InDigits a
in_digits a f = record { code = in_list (16 ^ 2) answer_codes a.code refl f.code; address = f.address; value = f.value; enables = f.enables }

pub numbers_are_key : NumbersAreKey
numbers_are_key set other a b g h e = digits_are_key set other a b (in_digits a (given_fits a g)) (in_digits b (given_fits b h)) e

-- of a state and a memory that fit the answers to lines are given
LinesGiven : ℕ → List (List ℕ) → Type 0
LinesGiven start ls = (st : State) (memory : List ℕ) → StateFits st → WordsFit memory → AllGiven (lines_outcome st start memory ls).answers

line_given : (start : ℕ) (line : List ℕ) (more : List (List ℕ)) → LinesGiven start more → LinesGiven start (line ∷ more)
unfolding LinesGiven lines_outcome line_outcome framed_outcome
line_given start line more rest st memory h m = by (frame_of line) refl
  where
    by : (f : Option Step) → frame_of line ≡ f
        → Given (framed_outcome f st start memory).answer × AllGiven (lines_outcome (framed_outcome f st start memory).state start (framed_outcome f st start memory).memory more).answers
    by (Some s) e =
        let v = (frame_only line s e).1.value in
        let o = fit_kept st start memory s h m v in
        (to_step st start memory s h m v, rest (step_of st start memory s).state (step_of st start memory s).memory o.state o.memory)
    by None e = (to_no_frame st, rest st memory h m)

lines_given : (start : ℕ) (ls : List (List ℕ)) → LinesGiven start ls
unfolding LinesGiven lines_outcome
lines_given start [] st memory h m = tt
lines_given start (line ∷ more) st memory h m = line_given start line more (lines_given start more) st memory h m

pub text_given : TextGiven
unfolding LinesGiven
text_given st start memory text h m = lines_given start (lines text) st memory h m
