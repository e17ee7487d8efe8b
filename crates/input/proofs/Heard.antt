-- A byte of the set line, by whether it is a digit; and the other cases of what has come.
--     first_some, first_none      the first digit
--     second_some, second_none    the second
--     no_number, no_first, chosen_other    what is no such case
use Rattle.std.proofs.Common.{◌≡◌, ℕ, ◌*◌, ◌+◌, ◌≤◌, Bool, true, false, cond, ltb, List, [], Some, None, refl, arith, le-ltb, ltb-false}
use Rattle.hex_digits.specs.Hex.{digit_number, digit_in}
use Rattle.logline.specs.Labels.{label_sets, is_set}
use Rattle.input.specs.declared.Reading.{Reading}
use Rattle.input.specs.declared.Reading.TheVariants.{FirstLine, Frames, Over}
use Rattle.input.specs.declared.SetLine.{SetLine}
use Rattle.input.specs.declared.SetLine.TheVariants.{Nothing, Digit, Number}
use Rattle.input.specs.Input.{heard, has_set, passing, refusal_after}
use Rattle.input.proofs.Passing.{passing_frames, passing_over}

module _ (b : ℕ) where
  some_by : (n : ℕ) (t : Bool) → ltb (digit_number b) 16 ≡ t → digit_in b ≡ Some n → (ltb (digit_number b) 16 ≡ true) × (digit_number b ≡ n)
  unfolding digit_in
  some_by n true q e = let z : Some (digit_number b) ≡ Some n = rw q at e in (q, cc)
  some_by n false q e = let z : None ≡ Some n = rw q at e in let w : ◌≡◌ {A = ℕ} 0 1 = cc in absurd (omega arith)

  none_by : (t : Bool) → ltb (digit_number b) 16 ≡ t → digit_in b ≡ None → ltb (digit_number b) 16 ≡ false
  unfolding digit_in
  none_by true q e = let z : Some (digit_number b) ≡ None = rw q at e in let w : ◌≡◌ {A = ℕ} 0 1 = cc in absurd (omega arith)
  none_by false q e = q

  not_digit : digit_in b ≡ None → ltb (digit_number b) 16 ≡ false
  not_digit = none_by (ltb (digit_number b) 16) refl

  is_digit : (n : ℕ) → digit_in b ≡ Some n → (ltb (digit_number b) 16 ≡ true) × (digit_number b ≡ n)
  is_digit n = some_by n (ltb (digit_number b) 16) refl

  pub first_some : (n : ℕ) (t : Bool) → digit_in b ≡ Some n → is_set (16 * n) ≡ t → cond t (FirstLine (Digit n)) Over ≡ heard Nothing b
  unfolding heard
  first_some n t e s = let d = is_digit n e in rw (d.1, s)

  -- no set's number begins so
  pub first_none : digit_in b ≡ None → Over ≡ heard Nothing b
  unfolding heard is_set label_sets
  first_none e =
      let high : 16 ≤ digit_number b = ltb-false _ _ (not_digit e) in
      rw (le-ltb (16 * digit_number b) 2 (omega (arith, high)))

  pub second_some : (high n : ℕ) (t : Bool) → digit_in b ≡ Some n → is_set (16 * high + n) ≡ t → cond t (FirstLine (Number (16 * high + n))) Over ≡ heard (Digit high) b
  unfolding heard
  second_some high n t e s = let d = is_digit n e in let low : ltb n 16 ≡ true = rw d.1 at d.0 in simp (d.1, low, s)

  pub second_none : (high : ℕ) → digit_in b ≡ None → Over ≡ heard (Digit high) b
  unfolding heard
  second_none high e = rw (not_digit e)

pub no_number : (line : SetLine) → ((set : ℕ) → line ≡ Number set → ⊥) → false ≡ has_set line
unfolding has_set
no_number Nothing n = refl
no_number (Digit high) n = refl
no_number (Number set) n = absurd (n set refl)

pub no_first : (r : Reading) → ((line : SetLine) → r ≡ FirstLine line → ⊥) → refusal_after r ≡ []
unfolding refusal_after
no_first (FirstLine line) n = absurd (n line refl)
no_first (Frames set) n = refl
no_first Over n = refl

pub passing_stop : (r : Reading) (xs : List ℕ) → ((line : SetLine) → r ≡ FirstLine line → ⊥) → passing r xs ≡ record { reading = r; rest = xs }
passing_stop (FirstLine line) xs n = absurd (n line refl)
passing_stop (Frames set) xs n = passing_frames set xs
passing_stop Over xs n = passing_over xs
