-- What is answered as written is within the output.
use Prim.Native.Nat.{ℕ, ◌≤◌}
use mathlib.Core.Path.{◌≡◌, refl, ap, ◌∙◌}
use mathlib.Core.Bool.{Bool, true, false, cond}
use mathlib.Core.List.{List}
use native.Mathlib.Omega.{arith}
use borrow.Author.Tests.{leb-true, le-leb}
use lib.ListN.{length, length-append}
use lib.Dec.{ltb, leb}
use Rattle.std.specs.Prelude.{Result, Ok, Err}
use Rattle.machine.specs.declared.codes.Refusal.{Refusal}
use Rattle.machine.specs.Window.{is_window_out_of_form}
use Rattle.lines.specs.Lines.{lines}
use Rattle.controller.specs.declared.Controller.{Controller}
use Rattle.frame_log.specs.declared.Stream.{Stream}
use Rattle.frame_log.specs.declared.Streamed.{Streamed}
use Rattle.frame_log.specs.declared.Ran.{Ran}
use Rattle.frame_log.specs.Results.{TextRun, Piece, no_room, is_short, is_within, text_run, piece_of, RunPromised, FeedPromised}
use Rattle.frame_log.proofs.Within.{within}
use Rattle.records.specs.Export.{export_of}
use Rattle.hex_export.specs.Results.{Export, exported_to}

-- a test that holds of both cases holds of the one that is taken
either : {A : Type 0} (test : A → Bool) (t : Bool) {x y : A} → test x ≡ true → test y ≡ true → test (cond t x y) ≡ true
either test true p q = p
either test false p q = q

-- ---- a log

none_within : (out : List ℕ) → is_within no_room out ≡ true
unfolding is_within
none_within out = refl

abbrev piece_is_within : Piece → Bool
piece_is_within q = is_within q.log q.out

pub feed_within : {set : ℕ} {s : Stream} {start : ℕ} {memory piece out : List ℕ} {r : Streamed} {memory' out' : List ℕ} → FeedPromised set s start memory piece out r memory' out' → is_within r.log out' ≡ true
unfolding piece_of
feed_within {piece = piece} {out = out} p = ap piece_is_within p.fed ∙ either piece_is_within (is_short (length piece) out) (none_within out) (within _ out)

abbrev run_is_within : TextRun → Bool
run_is_within q = is_within q.log q.out

pub run_within : {set : ℕ} {c : Controller} {start : ℕ} {memory text out : List ℕ} {r : Ran} {memory' out' : List ℕ} → RunPromised set c start memory text out r memory' out' → is_within r.log out' ≡ true
unfolding text_run
run_within {text = text} {out = out} p = ap run_is_within p.ran ∙ either run_is_within (is_short (length (lines text)) out) (none_within out) (within _ out)

-- ---- an export

-- a number of bytes that is answered is one that the output has
abbrev exported_within : Result ℕ Refusal → List ℕ → Bool
exported_within (Ok n) out = leb n (length out)
exported_within (Err r) out = true

abbrev export_is_within : Export → Bool
export_is_within q = exported_within q.answer q.out

module _ (start : ℕ) (words out : List ℕ) where
  export_by : (bad : Bool) → is_window_out_of_form start (length words) ≡ bad → (short : Bool) → ltb (length out) (length (export_of start words)) ≡ short → export_is_within (exported_to start words out) ≡ true
  unfolding exported_to
  export_by true e short f = rw e
  export_by false e true f = rw (e, f)
  export_by false e false f = rw (e, f) (le-leb (length (export_of start words)) _ (rw length-append (omega arith)))

  pub export_within : {n : ℕ} {r : Result ℕ Refusal} {out' : List ℕ} → record { answer = r; out = out' } ≡ exported_to start words out → r ≡ Ok n → n ≤ length out'
  export_within {n} {out' = out'} p q = leb-true n (length out') (rw q at (ap export_is_within p ∙ export_by _ refl _ refl))
