-- The first line of an input and what follows it, byte by byte; and which lines are none of a set.
--     first-lf, first_more    after an LF, and after another byte
--     set_line_read, set_line_only    exactly the numbers of the sets, in two digits
--     none_short, none_long, none_first, none-second    lines that are none of a set
use Prim.Native.Nat.{ℕ, zero, suc, ◌+◌, ◌*◌, ◌≤◌, ◌<◌, ◌^◌}
use mathlib.Core.Path.{◌≡◌, refl, sym, ◌∙◌}
use mathlib.Core.Bool.{Bool, true, false, ◌&&◌, true≢false}
use mathlib.Core.List.{List, [], ◌∷◌}
use native.Mathlib.Numerals.{add-one}
use native.Mathlib.Omega.{arith}
use native.Mathlib.Decide.{dec_lt}
use borrow.Author.Tests.{eqb-true, ltb-true, lt-ltb, le-ltb, ne_eqb}
use lib.ListN.{length, drop}
use lib.Dec.{eqb, ltb}
use Rattle.hex_digits.specs.Hex.{digit_number, all_digits, number_from, number}
use Rattle.laws.proofs.Below.{both}
use Rattle.hex_digits.proofs.Numbers.{length_digits, digits_are, number_digits, digits_number}
use Rattle.lines.specs.Lines.{until_lf, line_end, line_at, past_line}
use Rattle.lines.proofs.Positions.{until_lf_lem, until_more, past_more, past-last}
use Rattle.logline.specs.Labels.{label_sets, is_set}
use Rattle.input.specs.Input.{is_set_line}
use Rattle.input.specs.Promises.{SetLineRead, SetLineOnly}

abbrev pub first_line : List ℕ → List ℕ
first_line xs = line_at xs 0

abbrev pub past : List ℕ → List ℕ
past xs = drop (past_line xs 0) xs

pub first_none : first_line [] ≡ []
unfolding line_at until_lf
first_none = refl

pub past_none : past [] ≡ []
past_none = drop-nil (past_line [] 0)
  where
    drop-nil : (n : ℕ) → drop {A = ℕ} n [] ≡ []
    drop-nil zero = refl
    drop-nil (suc n) = refl

module _ (x : ℕ) (xs : List ℕ) where
  pub first-lf : x ≡ 10 → first_line (x ∷ xs) ≡ []
  unfolding line_at
  first-lf e = rw (until_lf_lem x xs e)

  pub past-lf : x ≡ 10 → past (x ∷ xs) ≡ xs
  unfolding line_end
  past-lf e = rw (← past_more (x ∷ xs) 0 0 (sym (rw (until_lf_lem x xs e))) (omega arith))

  pub first_more : (x ≡ 10 → ⊥) → first_line (x ∷ xs) ≡ x ∷ first_line xs
  unfolding line_at
  first_more e = rw (until_more x xs e)

  past_by : (x ≡ 10 → ⊥) → Dec (until_lf xs < length xs) → past (x ∷ xs) ≡ past xs
  unfolding line_end
  past_by e (yes h) =
      let u = until_more x xs e in
      rw (← past_more (x ∷ xs) 0 (suc (until_lf xs)) (sym (rw u (omega arith))) (omega arith), ← past_more xs 0 (until_lf xs) (omega arith) h, add-one, add-one)
  past_by e (no h) =
      let u = until_more x xs e in
      rw (← past-last (x ∷ xs) 0 (suc (until_lf xs)) (sym (rw u (omega arith))) (omega arith), ← past-last xs 0 (until_lf xs) (omega arith) (omega arith))

  pub past-on : (x ≡ 10 → ⊥) → past (x ∷ xs) ≡ past xs
  past-on e = past_by e (dec_lt (until_lf xs) (length xs))

-- ---- exactly the sets' numbers

set_small : (set : ℕ) → is_set set ≡ true → set < 16 ^ 2
unfolding is_set label_sets
set_small set s = let h = ltb-true set 2 s in omega arith

pub set_line_read : SetLineRead
unfolding is_set_line
set_line_read set s =
    let n = number_digits 2 set (set_small set s) in
    (simp (length_digits, digits_are, n, s), n)

pub set_line_only : SetLineOnly
unfolding is_set_line
set_line_only line h =
    let parts = both (eqb (length line) 2) (all_digits line && is_set (number line)) h in
    let rest = both (all_digits line) (is_set (number line)) parts.1 in
    let n = eqb-true (length line) 2 parts.0 in
    (rest.1, sym (rw n at (digits_number line rest.0)))

-- ---- which lines are none

pub none_short : (a : ℕ) → is_set_line (a ∷ []) ≡ false
unfolding is_set_line
none_short a = refl

pub none_empty : is_set_line [] ≡ false
unfolding is_set_line
none_empty = refl

pub none_long : (a b c : ℕ) (l : List ℕ) → is_set_line (a ∷ b ∷ c ∷ l) ≡ false
unfolding is_set_line
none_long a b c l = simp (ne_eqb (length (a ∷ b ∷ c ∷ l)) 2 (λ e. omega arith))

-- two digits are a set line if the second is a digit and both are a set's number
set_le : (m n : ℕ) → m ≤ n → is_set m ≡ false → is_set n ≡ false
unfolding is_set label_sets
set_le m n h e = le-ltb n 2 (large (dec_lt m 2) e)
  where
    large : Dec (m < 2) → ltb m 2 ≡ false → 2 ≤ n
    large (yes k) q = absurd (true≢false (sym (lt-ltb m 2 k) ∙ q))
    large (no k) q = omega arith

module _ (a b : ℕ) where
  abbrev pub pair : ℕ
  pair = 16 * digit_number a + digit_number b

  pub pair_is : number (a ∷ b ∷ []) ≡ pair
  unfolding number_from
  pair_is = omega arith

  and-false : (t : Bool) → (t && false) ≡ false
  and-false true = refl
  and-false false = refl

  second-by : (t u : Bool) → (t && u) ≡ false → (s : Bool) → ((s && (t && true)) && u) ≡ false
  second-by true true e s = absurd (true≢false e)
  second-by true false e s = and-false (s && true)
  second-by false u e true = refl
  second-by false u e false = refl

  pub none-second : (ltb (digit_number b) 16 && is_set pair) ≡ false → (l : List ℕ) → is_set_line (a ∷ b ∷ l) ≡ false
  unfolding is_set_line all_digits
  none-second e [] = rw pair_is (second-by (ltb (digit_number b) 16) (is_set pair) e (ltb (digit_number a) 16))
  none-second e (c ∷ l) = none_long a b c l

  set_is : (s t u : Bool) → s ≡ true → (t && u) ≡ true → ((s && (t && true)) && u) ≡ true
  set_is true true true e f = refl
  set_is true true false e f = f
  set_is true false u e f = f
  set_is false t u e f = absurd (true≢false (sym e))

  pub is-second : ltb (digit_number a) 16 ≡ true → (ltb (digit_number b) 16 && is_set pair) ≡ true → is_set_line (a ∷ b ∷ []) ≡ true
  unfolding is_set_line all_digits
  is-second d e = rw pair_is (set_is (ltb (digit_number a) 16) (ltb (digit_number b) 16) (is_set pair) d e)

pub none_first : (a : ℕ) → is_set (16 * digit_number a) ≡ false → (l : List ℕ) → is_set_line (a ∷ l) ≡ false
none_first a e [] = none_short a
none_first a e (b ∷ l) = none-second a b (by (ltb (digit_number b) 16) (set_le (16 * digit_number a) (16 * digit_number a + digit_number b) (omega arith) e)) l
  where
    by : (t : Bool) → is_set (16 * digit_number a + digit_number b) ≡ false → (t && is_set (16 * digit_number a + digit_number b)) ≡ false
    by true q = q
    by false q = refl
