-- The room that lines want, as the code's test has it, and the output with the log.
use Rattle.std.proofs.Common.{◌≡◌, ℕ, ◌*◌, ◌/◌, ◌<◌, ◌≤◌, true, false, List, length, ◌∙◌, zero-add, arith, le-ltb, lt-ltb}
use lib.Seq.{sets-eq}
use Rattle.logline.specs.LogLine.{line_room}
use Rattle.output.specs.Wrote.{Wrote}
use Rattle.frame_log.specs.Results.{is_short, with_log}

module _ (most : ℕ) (out : List ℕ) where
  pub short : length out / line_room < most → is_short most out ≡ true
  unfolding is_short
  short h = lt-ltb (length out) (line_room * most) (omega arith)

  pub long : most ≤ length out / line_room → is_short most out ≡ false
  unfolding is_short
  long h = le-ltb (length out) (line_room * most) (omega arith)

-- what is written from the output's start, with room for it
module _ {log out out' : List ℕ} {r : ℕ} (w : Wrote out 0 log r out') where
  pub log-end : r ≡ length log
  log-end = w.next ∙ zero-add (length log)

  pub with-log : length log ≤ length out → out' ≡ with_log log out
  unfolding with_log
  with-log h = w.over ∙ sets-eq log out 0 (omega arith) ∙ rw zero-add
