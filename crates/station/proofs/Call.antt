-- What is promised of the C call besides its contract.
use Prim.Native.Nat.{ℕ, ◌*◌, ◌≤◌, ◌<◌, zero-le}
use mathlib.Core.Path.{◌≡◌, sym, ◌∙◌}
use mathlib.Core.Bool.{true, false}
use mathlib.Core.List.{List, ◌++◌}
use native.Mathlib.Omega.{arith}
use borrow.Author.Tests.{lt-ltb, le-ltb}
use lib.IntN.{pos, negsuc}
use lib.ListN.{length, drop, length-append, length-drop}
use Rattle.machine.specs.State.{reset_state}
use Rattle.machine.specs.Window.{zero_words}
use Rattle.lines.specs.Lines.{lines_from, lines}
use Rattle.logline.specs.Labels.{is_set}
use Rattle.frame_log.specs.Log.{log_of, lines_outcome, text_outcome}
use Rattle.frame_log.specs.Results.{is_short, with_log, text_run}
use Rattle.frame_log.specs.Promises.{program_log}
use Rattle.frame_log.proofs.TextOutcome.{log_length, told_length}
use Rattle.station.specs.Call.{from_reset, is_too_long, number_of, result_of, output_of, CallUnique, EmptyCall, CallRule}

pub call_unique : CallUnique
call_unique set input output r q after also p o = (p.result ∙ sym o.result, p.written ∙ sym o.written)

pub empty_call : EmptyCall
unfolding lines_from log_of lines_outcome is_short with_log text_run from_reset is_too_long number_of result_of output_of
empty_call set output s =
    let enough = le-ltb (length output) 0 zero-le in
    (simp (s, enough), simp (s, enough))

module _ (set : ℕ) (input output : List ℕ) where
  -- the log has room where there are 41 bytes for each line
  log-within : 41 * length (lines input) ≤ length output → length (program_log set input) ≤ length output
  unfolding program_log
  log-within h = omega (arith, log_length set (text_outcome reset_state 0 zero_words input).answers, told_length reset_state 0 zero_words (lines input))

  too_long_lem : 1_048_576 < length input → (result_of set input output ≡ negsuc 1) × (output_of set input output ≡ output)
  unfolding is_too_long result_of output_of
  too_long_lem h = let t = lt-ltb 1_048_576 (length input) h in (simp t, simp t)

  unknown_set_lem : length input ≤ 1_048_576 → is_set set ≡ false → (result_of set input output ≡ negsuc 2) × (output_of set input output ≡ output)
  unfolding is_too_long result_of output_of
  unknown_set_lem k n = let t = le-ltb 1_048_576 (length input) k in (simp (t, n), simp (t, n))

  no_room_lem : length input ≤ 1_048_576 → is_set set ≡ true → length output < 41 * length (lines input) → (result_of set input output ≡ negsuc 0) × (output_of set input output ≡ output)
  unfolding is_short text_run from_reset is_too_long number_of result_of output_of
  no_room_lem k n h =
      let t = le-ltb 1_048_576 (length input) k in
      let s = lt-ltb (length output) (41 * length (lines input)) h in
      (simp (t, n, s), simp (t, n, s))

  logged : length input ≤ 1_048_576 → is_set set ≡ true → 41 * length (lines input) ≤ length output
      → (result_of set input output ≡ pos (length (program_log set input))) × (output_of set input output ≡ program_log set input ++ drop (length (program_log set input)) output)
  unfolding is_short with_log text_run program_log from_reset is_too_long number_of result_of output_of
  logged k n h =
      let t = le-ltb 1_048_576 (length input) k in
      let s = le-ltb (length output) (41 * length (lines input)) h in
      (simp (t, n, s), simp (t, n, s))

pub call_rule : CallRule
call_rule set input output r after p =
    record {
      too_long = λ h. let q = too_long_lem set input output h in (p.result ∙ q.0, p.written ∙ q.1);
      unknown_set = λ k n. let q = unknown_set_lem set input output k n in (p.result ∙ q.0, p.written ∙ q.1);
      no_room = λ k n h. let q = no_room_lem set input output k n h in (p.result ∙ q.0, p.written ∙ q.1);
      logged = λ k n h.
          let q = logged set input output k n h in
          let e = p.written ∙ q.1 in
          (p.result ∙ q.0, e, rw e (simp (length-append, length-drop) (omega (arith, log-within set input output h))));
    }
