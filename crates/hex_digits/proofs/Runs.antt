-- The bytes that are digits stand in two runs: which digit a byte of each is, and that no other is one.
use Prim.Native.Nat.{ℕ, ◌+◌, ◌-◌, ◌≤◌, ◌<◌}
use mathlib.Core.Path.{◌≡◌, refl, ◌∙◌}
use mathlib.Core.Bool.{cond, ◌&&◌}
use native.Mathlib.Omega.{arith}
use lib.Dec.{eqb, leb}
use borrow.Author.Tests.{eqb-true, le-leb, lt-leb, lt-ltb}
use Rattle.std.proofs.Common.{Some, None}
use Rattle.laws.proofs.Below.{below_at}
use Rattle.hex_digits.specs.Hex.{hex_digits, place_in, digit_number, digit_in}

abbrev in_runs : ℕ → ℕ
in_runs b = cond (leb 48 b && leb b 57) (b - 48) (cond (leb 65 b && leb b 70) (b - 65 + 10) 16)

two_runs : (b : ℕ) → b < 256 → digit_number b ≡ in_runs b
unfolding hex_digits place_in digit_number
two_runs b h = eqb-true (digit_number b) (in_runs b) (below_at (λ n. eqb (digit_number n) (in_runs n)) 256 b refl h)

module _ (b : ℕ) where
  is_digit : (n : ℕ) → digit_number b ≡ n → n < 16 → digit_in b ≡ Some n
  unfolding digit_in
  is_digit n e h = rw (e, lt-ltb n 16 h)

  is_none : digit_number b ≡ 16 → digit_in b ≡ None
  unfolding digit_in
  is_none e = rw e

  pub digit_in_first : 48 ≤ b → b < 58 → digit_in b ≡ Some (b - 48)
  digit_in_first h k = is_digit (b - 48) (two_runs b (omega arith) ∙ rw (le-leb 48 b h, le-leb b 57 (omega arith))) (omega arith)

  pub digit_in_second : 65 ≤ b → b < 71 → digit_in b ≡ Some (b - 65 + 10)
  digit_in_second h k =
      is_digit (b - 65 + 10) (two_runs b (omega arith) ∙ rw (le-leb 48 b (omega arith), lt-leb b 57 (omega arith), le-leb 65 b h, le-leb b 70 (omega arith))) (omega arith)

  pub no_digit_below : b < 48 → digit_in b ≡ None
  no_digit_below h = is_none (two_runs b (omega arith) ∙ rw (lt-leb 48 b h, lt-leb 65 b (omega arith)))

  pub no_digit_between : 58 ≤ b → b < 65 → digit_in b ≡ None
  no_digit_between h k = is_none (two_runs b (omega arith) ∙ rw (le-leb 48 b (omega arith), lt-leb b 57 (omega arith), lt-leb 65 b k))

  pub no_digit_above : 71 ≤ b → b < 256 → digit_in b ≡ None
  no_digit_above h k =
      is_none (two_runs b k ∙ rw (le-leb 48 b (omega arith), lt-leb b 57 (omega arith), le-leb 65 b (omega arith), lt-leb b 70 (omega arith)))

pub ruleset digit_runs = (digit_in_first, digit_in_second, no_digit_below, no_digit_between, no_digit_above)
