-- An export, by what is found: a bad window, an output that is too short, an output that is long enough.
use Prim.Native.Nat.{ℕ, ◌<◌, ◌≤◌}
use mathlib.Core.Path.{◌≡◌, sym, ◌∙◌}
use mathlib.Core.Bool.{true, false}
use mathlib.Core.List.{List, ◌++◌}
use native.Mathlib.Nat.{zero-add}
use native.Mathlib.Omega.{arith}
use lib.ListN.{length, drop}
use lib.Seq.{sets-eq}
use borrow.Author.Tests.{lt-ltb, le-ltb}
use Rattle.machine.specs.Window.{is_window_out_of_form}
use Rattle.records.specs.Export.{export_of, export_length}
use Rattle.records.proofs.Length.{export_length_lem}
use Rattle.records.proofs.Promises.{good_window}
use Rattle.std.proofs.Common.{Result, Ok, Err}
use Rattle.machine.specs.declared.codes.Refusal.{Refusal}
use Rattle.machine.specs.declared.codes.Refusal.TheVariants.{WindowOutOfForm, OutputTooShort}
use Rattle.output.specs.Wrote.{Wrote}
use Rattle.hex_export.specs.Results.{length_of, exported_to}

pub length_bad : (start words : ℕ) → is_window_out_of_form start words ≡ true → ◌≡◌ {A = Result ℕ Refusal} (Err WindowOutOfForm) (length_of start words)
unfolding length_of
length_bad start words e = rw e

pub length_good : (start words n : ℕ) → is_window_out_of_form start words ≡ false → n ≡ export_length start words → ◌≡◌ {A = Result ℕ Refusal} (Ok n) (length_of start words)
unfolding length_of
length_good start words n e f = rw (e, f)

module _ (start : ℕ) (words : List ℕ) where
  module _ (out : List ℕ) where
    pub export_bad : is_window_out_of_form start (length words) ≡ true → record { answer = Err WindowOutOfForm; out = out } ≡ exported_to start words out
    unfolding exported_to
    export_bad e = rw e

    module _ (n : ℕ) (good : is_window_out_of_form start (length words) ≡ false) (computed : n ≡ export_length start (length words)) where
      pub is : n ≡ length (export_of start words)
      is = computed ∙ sym (export_length_lem start words (good_window start (length words) good))

      pub export_short : length out < n → record { answer = Err OutputTooShort; out = out } ≡ exported_to start words out
      unfolding exported_to
      export_short h = rw (good, lt-ltb (length out) (length (export_of start words)) (rw (← is) h))

      pub export_done : {r : ℕ} {after : List ℕ} → n ≤ length out → Wrote out 0 (export_of start words) r after → record { answer = Ok n; out = after } ≡ exported_to start words out
      unfolding exported_to
      export_done {r} {after} h w =
          let e : after ≡ export_of start words ++ drop (length (export_of start words)) out = w.over ∙ sets-eq (export_of start words) out 0 (omega (arith, is)) ∙ rw zero-add in
          rw (good, le-ltb (length out) (length (export_of start words)) (rw (← is) h), e, is)
