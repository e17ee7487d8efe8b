-- Digits and numbers.
--     length_digits                  as many digits as asked for
--     number_is                      the number of a number's digit
--     all_append                     digits joined are digits
--     more, number_lt                one digit more, as a bound; the number of n digits is below 16 ^ n
--     digits_are, number_digits      what is written are digits, and they stand for the number written
--     digits_number                  the digits of the number that digits stand for are those digits
use Prim.Native.Nat.{ℕ, zero, suc, ◌+◌, ◌*◌, ◌/◌, ◌%◌, ◌^◌, ◌<◌}
use mathlib.Core.Path.{◌≡◌, refl, sym, ◌∙◌}
use mathlib.Core.Bool.{Bool, true, false, ◌&&◌}
use mathlib.Core.List.{List, [], ◌∷◌, ◌++◌, append_assoc, append-nil}
use native.Mathlib.Nat.{pow-suc, add-suc, suc-add, add-zero, zero-add}
use native.Mathlib.Numerals.{add-one}
use native.Mathlib.Omega.{arith}
use native.Mathlib.Decide.{ℕ_discrete}
use lib.ListN.{length, get_or, length-append}
use lib.Dec.{ltb, eqb, lit<}
use borrow.Author.Tests.{eqb-true, eq-eqb, ne_eqb, ltb-true, lt-ltb}
use Rattle.hex_digits.specs.Hex.{hex_digits, place_in, digit_number, all_digits, number_from, number, digit_of, digits}
use Rattle.laws.proofs.Below.{both, below_at}

pub length_digits : (n x : ℕ) → length (digits n x) ≡ n
unfolding digits
length_digits zero x = refl
length_digits (suc n) x = length-append (digits n (x / 16)) (digit_of (x % 16) ∷ []) ∙ rw (length_digits n (x / 16), add-one)

-- ---- one digit

place_step : (x b : ℕ) (xs : List ℕ) → Dec (b ≡ x) → (place_in xs b < length xs → get_or xs (place_in xs b) 0 ≡ b)
    → place_in (x ∷ xs) b < length (x ∷ xs) → get_or (x ∷ xs) (place_in (x ∷ xs) b) 0 ≡ b
unfolding place_in
place_step x b xs (yes e) before h = rw (eq-eqb b x e) (sym e)
place_step x b xs (no e) before h = let k = rw (ne_eqb b x e) at h in rw (ne_eqb b x e) (before (omega arith))

-- a byte that has a place stands there
place_at_lem : (xs : List ℕ) (b : ℕ) → place_in xs b < length xs → get_or xs (place_in xs b) 0 ≡ b
place_at_lem [] b h = absurd (omega arith)
place_at_lem (x ∷ xs) b h = place_step x b xs (ℕ_discrete b x) (place_at_lem xs b) h

digit_is : (b : ℕ) → digit_number b < 16 → digit_of (digit_number b) ≡ b
unfolding hex_digits digit_number digit_of
digit_is b h = place_at_lem hex_digits b h

pub number_is : (k : ℕ) → k < 16 → digit_number (digit_of k) ≡ k
unfolding hex_digits place_in digit_number digit_of
number_is k h = eqb-true (digit_number (digit_of k)) k (below_at (λ n. eqb (digit_number (digit_of n)) n) 16 k refl h)

-- ---- digits joined

pub all_append : (s t : List ℕ) → all_digits (s ++ t) ≡ (all_digits s && all_digits t)
unfolding all_digits
all_append [] t = refl
all_append (b ∷ s) t = and_step (ltb (digit_number b) 16) (all_digits s) (all_digits t) (all_append s t)
  where
    and_step : (a y z : Bool) {x : Bool} → x ≡ (y && z) → (a && x) ≡ ((a && y) && z)
    and_step true y z e = e
    and_step false y z e = refl

-- ---- how large

pub more : (i n d : ℕ) → n < 16 ^ i → d < 16 → n * 16 + d < 16 ^ suc i
more i n d h k = rw pow-suc (omega arith)

lt_from : (s : List ℕ) (i n : ℕ) → n < 16 ^ i → all_digits s ≡ true → number_from n s < 16 ^ (i + length s)
unfolding number_from all_digits
lt_from [] i n h e = rw add-zero h
lt_from (b ∷ s) i n h e =
    let parts = both (ltb (digit_number b) 16) (all_digits s) e in
    rw (add-suc, ← suc-add) (lt_from s (suc i) (n * 16 + digit_number b) (more i n (digit_number b) h (ltb-true (digit_number b) 16 parts.0)) parts.1)

pub number_lt : (s : List ℕ) → all_digits s ≡ true → number s < 16 ^ length s
number_lt s e = rw zero-add at (lt_from s 0 0 (lit< tt) e)

-- ---- there and back

number_snoc : (n : ℕ) (s : List ℕ) (b : ℕ) → number_from n (s ++ (b ∷ [])) ≡ number_from n s * 16 + digit_number b
unfolding number_from
number_snoc n [] b = refl
number_snoc n (a ∷ s) b = number_snoc (n * 16 + digit_number a) s b

pub digits_are : (n x : ℕ) → all_digits (digits n x) ≡ true
unfolding digits all_digits
digits_are zero x = refl
digits_are (suc n) x =
    all_append (digits n (x / 16)) (digit_of (x % 16) ∷ [])
    ∙ rw (digits_are n (x / 16), lt-ltb (digit_number (digit_of (x % 16))) 16 (rw (number_is (x % 16) (omega arith)) (omega arith)))

pub number_digits : (n x : ℕ) → x < 16 ^ n → number (digits n x) ≡ x
unfolding digits number_from
number_digits zero x h = omega arith
number_digits (suc n) x h =
    number_snoc 0 (digits n (x / 16)) (digit_of (x % 16))
    ∙ rw (number_digits n (x / 16) (let k = rw pow-suc at h in omega arith), number_is (x % 16) (omega arith)) (omega arith)

one_more_lem : (n x : ℕ) → digits (suc n) x ≡ digits n (x / 16) ++ (digit_of (x % 16) ∷ [])
unfolding digits
one_more_lem n x = refl

back_from : (s : List ℕ) (i n : ℕ) → all_digits s ≡ true → digits (i + length s) (number_from n s) ≡ digits i n ++ s
unfolding number_from all_digits
back_from [] i n e = rw (add-zero, append-nil)
back_from (b ∷ s) i n e =
    let parts = both (ltb (digit_number b) 16) (all_digits s) e in
    let d = digit_number b in
    let small : d < 16 = ltb-true d 16 parts.0 in
    let high : (n * 16 + d) / 16 ≡ n = omega arith in
    let low : (n * 16 + d) % 16 ≡ d = omega arith in
    rw (add-suc, ← suc-add) (back_from s (suc i) (n * 16 + d) parts.1 ∙ rw (one_more_lem i (n * 16 + d), high, low, digit_is b small, append_assoc))

pub digits_number : (s : List ℕ) → all_digits s ≡ true → digits (length s) (number s) ≡ s
unfolding digits
digits_number s e = rw zero-add at (back_from s 0 0 e)
