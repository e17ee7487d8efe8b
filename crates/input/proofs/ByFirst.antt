-- What is made of an input byte by byte, told by its first line: `read` of the set line on, from what has come of it; `known` past a set
-- line, by its set and the bytes behind it; `none` for an unknown set.
--     by_first_lem     the whole input, by its first line
use Prim.Native.Nat.{ℕ, ◌+◌, ◌*◌}
use mathlib.Core.Path.{◌≡◌, refl, ◌∙◌}
use mathlib.Core.Bool.{Bool, true, false, cond, ◌&&◌}
use mathlib.Core.List.{List, [], ◌∷◌, ◌++◌}
use native.Mathlib.Omega.{arith}
use native.Mathlib.Decide.{ℕ_discrete}
use borrow.Author.Tests.{ltb-true, lt-ltb}
use lib.Dec.{ltb}
use Rattle.hex_digits.specs.Hex.{hex_digits, place_in, digit_number, number}
use Rattle.logline.specs.Labels.{label_sets, is_set}
use Rattle.input.specs.declared.Reading.{Reading}
use Rattle.input.specs.declared.Reading.TheVariants.{FirstLine, Frames, Over}
use Rattle.input.specs.declared.SetLine.{SetLine}
use Rattle.input.specs.declared.SetLine.TheVariants.{Nothing, Digit, Number}
use Rattle.input.specs.Input.{is_set_line, heard}
use Rattle.input.proofs.Passing.{heard-lf, heard-other, heard-second, heard-no-second, heard-first, heard-no-first}
use Rattle.input.proofs.FirstLine.{first_line, past, first_none, past_none, first-lf, past-lf, first_more, past-on, none_empty, none_short, none_long, pair, none-second, pair_is, is-second, none_first}

-- an LF is no digit
lf_digit : digit_number 10 ≡ 16
unfolding digit_number place_in hex_digits
lf_digit = refl

pub lf_second : (high x : ℕ) → x ≡ 10 → (ltb (digit_number x) 16 && is_set (16 * high + digit_number x)) ≡ false
lf_second high x e = rw (e, lf_digit)

pub lf_first : (x : ℕ) → x ≡ 10 → is_set (16 * digit_number x) ≡ false
unfolding is_set label_sets
lf_first x e = rw (e, lf_digit)

pub first_digit : (x : ℕ) → is_set (16 * digit_number x) ≡ true → ltb (digit_number x) 16 ≡ true
unfolding is_set label_sets
first_digit x e = let h = ltb-true (16 * digit_number x) 2 e in lt-ltb (digit_number x) 16 (omega arith)

module _ {A : Type 0} (read : SetLine → List ℕ → A) (known : ℕ → List ℕ → A) (none : A) where
  -- further on from a reading, and at the end of the input
  abbrev pub on_from : Reading → List ℕ → A
  on_from (FirstLine line) xs = read line xs
  on_from (Frames set) xs = known set xs
  on_from Over xs = none

  abbrev pub at_end : SetLine → A
  at_end Nothing = none
  at_end (Digit high) = none
  at_end (Number set) = known set []

  -- what the first line says after the bytes `begun` of it
  abbrev pub by_first : List ℕ → List ℕ → A
  by_first begun xs = cond (is_set_line (begun ++ first_line xs)) (known (number (begun ++ first_line xs)) (past xs)) none

  by_none : (begun xs : List ℕ) → is_set_line (begun ++ first_line xs) ≡ false → none ≡ by_first begun xs
  by_none begun xs e = rw e

  module _ (ended : (line : SetLine) → read line [] ≡ at_end line) (more : (line : SetLine) (x : ℕ) (xs : List ℕ) (r : Reading) → heard line x ≡ r → read line (x ∷ xs) ≡ on_from r xs) where
    module _ (a b : ℕ) (s : is_set_line (a ∷ b ∷ []) ≡ true) where
      abbrev set : ℕ
      set = number (a ∷ b ∷ [])

      after_both : (xs : List ℕ) → read (Number set) xs ≡ by_first (a ∷ b ∷ []) xs
      after_both [] = ended (Number set) ∙ rw (first_none, past_none, s)
      after_both (x ∷ xs) = by (ℕ_discrete x 10)
        where
          by : Dec (x ≡ 10) → read (Number set) (x ∷ xs) ≡ by_first (a ∷ b ∷ []) (x ∷ xs)
          by (yes e) = more (Number set) x xs (Frames set) (heard-lf x set e) ∙ rw (first-lf x xs e, past-lf x xs e, s)
          by (no e) = more (Number set) x xs Over (heard-other x set e) ∙ by_none (a ∷ b ∷ []) (x ∷ xs) (rw (first_more x xs e) (none_long a b x (first_line xs)))

    module _ (a : ℕ) (d : ltb (digit_number a) 16 ≡ true) where
      after_one : (xs : List ℕ) → read (Digit (digit_number a)) xs ≡ by_first (a ∷ []) xs
      after_one [] = ended (Digit (digit_number a)) ∙ by_none (a ∷ []) [] (rw first_none (none_short a))
      after_one (x ∷ xs) = by (ℕ_discrete x 10) (ltb (digit_number x) 16 && is_set (pair a x)) refl
        where
          by : Dec (x ≡ 10) → (t : Bool) → (ltb (digit_number x) 16 && is_set (pair a x)) ≡ t → read (Digit (digit_number a)) (x ∷ xs) ≡ by_first (a ∷ []) (x ∷ xs)
          by (yes e) t q =
              more (Digit (digit_number a)) x xs Over (heard-no-second x (digit_number a) (lf_second (digit_number a) x e)) ∙ by_none (a ∷ []) (x ∷ xs) (rw (first-lf x xs e) (none_short a))
          by (no e) true q =
              let both : read (Number (pair a x)) xs ≡ by_first (a ∷ x ∷ []) xs = rw (← pair_is a x) (after_both a x (is-second a x d q) xs) in
              let on : by_first (a ∷ x ∷ []) xs ≡ by_first (a ∷ []) (x ∷ xs) = rw (first_more x xs e, past-on x xs e) in
              more (Digit (digit_number a)) x xs (FirstLine (Number (pair a x))) (heard-second x (digit_number a) q) ∙ both ∙ on
          by (no e) false q =
              more (Digit (digit_number a)) x xs Over (heard-no-second x (digit_number a) q)
              ∙ by_none (a ∷ []) (x ∷ xs) (rw (first_more x xs e) (none-second a x q (first_line xs)))

    pub by_first_lem : (xs : List ℕ) → read Nothing xs ≡ by_first [] xs
    by_first_lem [] = ended Nothing ∙ by_none [] [] (rw first_none none_empty)
    by_first_lem (x ∷ xs) = by (ℕ_discrete x 10) (is_set (16 * digit_number x)) refl
      where
        by : Dec (x ≡ 10) → (t : Bool) → is_set (16 * digit_number x) ≡ t → read Nothing (x ∷ xs) ≡ by_first [] (x ∷ xs)
        by (yes e) t q =
            more Nothing x xs Over (heard-no-first x (lf_first x e)) ∙ by_none [] (x ∷ xs) (rw (first-lf x xs e) none_empty)
        by (no e) true q =
            let on : by_first (x ∷ []) xs ≡ by_first [] (x ∷ xs) = rw (first_more x xs e, past-on x xs e) in
            more Nothing x xs (FirstLine (Digit (digit_number x))) (heard-first x q) ∙ after_one x (first_digit x q) xs ∙ on
        by (no e) false q =
            more Nothing x xs Over (heard-no-first x q) ∙ by_none [] (x ∷ xs) (rw (first_more x xs e) (none_first x q (first_line xs)))
