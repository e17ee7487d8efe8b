use mathlib.Core.List.{List}
use mathlib.Core.Path.{◌≡◌, sym, ap, ◌∙◌}
use Prim.Native.Nat.{ℕ, ◌<◌, ◌≤◌, ◌^◌}
use native.Mathlib.Omega.{arith}
use borrow.Author.Tests.{lt-ltb, le-ltb}
use lib.ListN.{length}
use mir.Syntax.{w64}
use mir.ValLaws.{to_z_pos}
use Rattle.machine.specs.State.{State}
use Rattle.std.proofs.Common.{Ok}
use Rattle.frame_log.specs.Results.{TextRun, text_run}
use Rattle.station.specs.Call.{is_too_long, from_reset, number_of, result_of, output_of}
use Rattle.station.proofs.Few.{few}
use Rattle.station.proofs.s5933_log.Goals as goal

-- how long the log is
small : (set : ℕ) (st : State) (memory input output : List ℕ) (n : ℕ) → length input ≤ 1_048_576 → (text_run set st 0 memory input output).log ≡ Ok n → n < 2 ^ 63
small set st memory input output n h e = omega (arith, few set st 0 memory input output n e)

pub returns-then-input-gt-INPUT_MOST : goal.returns-then-input-gt-INPUT_MOST
unfolding result_of output_of is_too_long
returns-then-input-gt-INPUT_MOST c =
    let t = lt-ltb _ _ c.if-input-gt-INPUT_MOST.true in
    record { result = simp t; written = simp t }

pub returns-then-not-is_set : goal.returns-then-not-is_set
unfolding result_of output_of is_too_long
returns-then-not-is_set c =
    let t = le-ltb _ _ c.if-input-gt-INPUT_MOST.false in
    let n = sym c.is_set.ensures ∙ c.if-not-is_set.true in
    record { result = simp (t, n); written = simp (t, n) }

pub overflow_cast-result : goal.overflow_cast-result
overflow_cast-result c =
    let e = ap (λ (q : TextRun). q.log) c.run-r.ensures.ran in
    record { sfits = small _ _ _ _ _ _ c.if-input-gt-INPUT_MOST.false (sym e ∙ c.in-Ok.is) }

pub returns-in-Ok : goal.returns-in-Ok
unfolding result_of output_of is_too_long number_of from_reset
returns-in-Ok c =
    let t = le-ltb _ _ c.if-input-gt-INPUT_MOST.false in
    let known = sym c.is_set.ensures ∙ c.if-not-is_set.false in
    let e = rw c.reset-c.ensures at c.run-r.ensures.ran in
    let log = ap (λ (q : TextRun). q.log) e in
    record {
      result = simp (t, known, ← log, c.in-Ok.is) (to_z_pos w64 c.in-Ok.n (small _ _ _ _ _ _ c.if-input-gt-INPUT_MOST.false (sym log ∙ c.in-Ok.is)));
      written = simp (t, known) (λ i. (e i).out);
    }

pub returns-in-Err : goal.returns-in-Err
unfolding result_of output_of is_too_long number_of from_reset
returns-in-Err c =
    let t = le-ltb _ _ c.if-input-gt-INPUT_MOST.false in
    let known = sym c.is_set.ensures ∙ c.if-not-is_set.false in
    let e = rw c.reset-c.ensures at c.run-r.ensures.ran in
    record {
      result = simp (t, known, ← ap (λ (q : TextRun). q.log) e, c.in-Err.is);
      written = simp (t, known) (λ i. (e i).out);
    }
