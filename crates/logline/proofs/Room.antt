-- The line that is written, by whether there is room for it.
use Prim.Native.Nat.{ℕ, ◌+◌, ◌≤◌, ◌<◌, zero-le}
use mathlib.Core.Path.{◌≡◌, refl, ap}
use mathlib.Core.List.{List, []}
use mathlib.Core.Bool.{Bool, true, false, cond}
use native.Mathlib.Omega.{arith}
use borrow.Author.Tests.{le-leb, lt-leb, leb-true}
use lib.ListN.{length}
use lib.Dec.{leb}
use Rattle.machine.specs.declared.Answer.{Answer}
use Rattle.hex_digits.specs.Hex.{hex_digits, digit_of, digits}
use Rattle.logline.specs.Labels.{english, label_sets, label_in, label_of}
use Rattle.logline.specs.LogLine.{numbers, log_body, log_line, refusal, line_room, line_in}
use Rattle.logline.specs.Promises.{LineRoom, MarksUnlogged, RefusalLine}
use Rattle.output.specs.Wrote.{Wrote}
use Rattle.output.proofs.Wrote.{wrote_length}
use Rattle.logline.proofs.Labels.{line_fits}

module _ (set : ℕ) (out : List ℕ) (at : ℕ) (a : Answer) where
  pub in-room : at + line_room ≤ length out → line_in set out at a ≡ log_line set a
  unfolding line_in
  in-room h = simp (le-leb _ _ h)

  pub no_room_lem : length out < at + line_room → line_in set out at a ≡ []
  unfolding line_in
  no_room_lem h = simp (lt-leb _ _ h)

-- what was written of a line is within the output
module _ (set : ℕ) (out : List ℕ) (a : Answer) where
  within_by : (t : Bool) → leb line_room (length out) ≡ t → length (cond t (log_line set a) []) ≤ length out
  within_by true e = omega (arith, leb-true line_room (length out) e, line_fits set a)
  within_by false e = zero-le

  pub line-within : {r : ℕ} {out' : List ℕ} → Wrote out 0 (line_in set out 0 a) r out' → r ≤ length out'
  unfolding line_in
  line-within w = omega (arith, w.next, wrote_length w, within_by (leb line_room (length out)) refl)

pub line_room_lem : LineRoom
line_room_lem set out at a = (in-room set out at a, no_room_lem set out at a)

pub marks_unlogged : MarksUnlogged
unfolding log_line log_body numbers
marks_unlogged set a b e = ap (log_line set) e

pub refusal_line : RefusalLine
unfolding refusal log_line log_body numbers digits digit_of hex_digits label_in label_of label_sets english
refusal_line = refl
