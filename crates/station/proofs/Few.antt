-- A run's log has at most 41 bytes for each line, so its length is a number of the C call.
use Prim.Native.Nat.{ℕ, ◌*◌, ◌≤◌}
use mathlib.Core.Path.{◌≡◌, refl}
use mathlib.Core.Bool.{Bool, true, false}
use mathlib.Core.List.{List}
use native.Mathlib.Omega.{arith}
use lib.ListN.{length}
use Rattle.machine.specs.State.{State}
use Rattle.lines.specs.Lines.{lines}
use Rattle.lines.proofs.Lines.{lines_few}
use Rattle.logline.specs.LogLine.{line_room}
use Rattle.std.proofs.Common.{Ok}
use Rattle.frame_log.specs.Log.{log_of, text_outcome}
use Rattle.frame_log.specs.Results.{no_room, is_short, text_run}
use Rattle.frame_log.proofs.TextOutcome.{log_length, told_length}

module _ (set : ℕ) (st : State) (start : ℕ) (memory text out : List ℕ) (n : ℕ) where
  by-room : (t : Bool) → is_short (length (lines text)) out ≡ t → (text_run set st start memory text out).log ≡ Ok n → n ≡ length (log_of set (text_outcome st start memory text).answers)
  unfolding text_run
  by-room true q e = let z : no_room ≡ Ok n = rw q at e in let w : ◌≡◌ {A = ℕ} 0 1 = cc in absurd (omega arith)
  by-room false q e = let z : Ok (length (log_of set (text_outcome st start memory text).answers)) ≡ Ok n = rw q at e in cc

  pub few : (text_run set st start memory text out).log ≡ Ok n → n ≤ line_room * length text
  few e =
      omega (
        arith,
        by-room (is_short (length (lines text)) out) refl e,
        log_length set (text_outcome st start memory text).answers,
        told_length st start memory (lines text),
        lines_few text,
      )
