-- The bits of what the operations on words make. A number is its bits.
use Prim.Native.Nat.{ℕ, zero, suc, ◌+◌, ◌-◌, ◌*◌, ◌/◌, ◌%◌, ◌^◌, ◌<◌, ◌≤◌, min, max}
use mathlib.Core.Path.{◌≡◌, refl, sym, ap, ap₂, ◌∙◌}
use mathlib.Core.Bool.{Bool, true, false, cond, not, ◌&&◌, ◌||◌, or-false, and_assoc, and_comm, and-or_distrib_right}
use native.Mathlib.Nat.{mod-lt, div-div-eq-div-mul, pow-suc, mul_comm, mul-one, one-mul, sub-zero, suc-sub-suc, zero-div, div-eq_of_lt, lt_of_lt_of_le, pow-le-pow_right}
use native.Mathlib.Omega.{arith}
use lib.Dec.{eqb, leb, ltb, leb-zero, leb-suc-zero, leb-suc-suc}
use lib.Bits.{bit_and, bit_or, bit_xor, differ, and_mask, and_shr, or_shr, and_step, or_step, xor_step, xor_shr, shifted_even, shifted_half}
use lib.Pow.{pow-add}
use borrow.Author.Tests.{eqb-true, eqb-false, eq-eqb, ne_eqb, leb-true, leb-false, lt-ltb, le-ltb}
use Rattle.machine.specs.Words.{bit, flag, raised, cleared, only}

-- ---- and, or

-- of two binary digits
two_digits : (P : ℕ → ℕ → Type 0) → P 0 0 → P 0 1 → P 1 0 → P 1 1 → (p q : ℕ) → p < 2 → q < 2 → P p q
two_digits P a b c d zero zero h l = a
two_digits P a b c d zero (suc zero) h l = b
two_digits P a b c d (suc zero) zero h l = c
two_digits P a b c d (suc zero) (suc zero) h l = d
two_digits P a b c d zero (suc (suc q)) h l = absurd (omega arith)
two_digits P a b c d (suc zero) (suc (suc q)) h l = absurd (omega arith)
two_digits P a b c d (suc (suc p)) q h l = absurd (omega arith)

max_or : (p q : ℕ) → p < 2 → q < 2 → eqb (max p q) 1 ≡ (eqb p 1 || eqb q 1)
max_or = two_digits (λ p q. eqb (max p q) 1 ≡ (eqb p 1 || eqb q 1)) refl refl refl refl

min_and : (p q : ℕ) → p < 2 → q < 2 → eqb (min p q) 1 ≡ (eqb p 1 && eqb q 1)
min_and = two_digits (λ p q. eqb (min p q) 1 ≡ (eqb p 1 && eqb q 1)) refl refl refl refl

or_low : (x y : ℕ) → bit_or x y % 2 ≡ max (x % 2) (y % 2)
or_low x y = omega (arith, or_step x y)

and_low : (x y : ℕ) → bit_and x y % 2 ≡ min (x % 2) (y % 2)
and_low x y = omega (arith, and_step x y)

pub bit_or_lem : (a b k : ℕ) → bit (bit_or a b) k ≡ (bit a k || bit b k)
unfolding bit
bit_or_lem a b k = rw (or_shr, or_low) (max_or (a / 2 ^ k % 2) (b / 2 ^ k % 2) (mod-lt (a / 2 ^ k) (omega arith)) (mod-lt (b / 2 ^ k) (omega arith)))

pub bit_and_lem : (a b k : ℕ) → bit (bit_and a b) k ≡ (bit a k && bit b k)
unfolding bit
bit_and_lem a b k = rw (and_shr, and_low) (min_and (a / 2 ^ k % 2) (b / 2 ^ k % 2) (mod-lt (a / 2 ^ k) (omega arith)) (mod-lt (b / 2 ^ k) (omega arith)))

digits_differ : (p q : ℕ) → p < 2 → q < 2 → (differ p q < 2) × (eqb (differ p q) 1 ≡ cond (eqb q 1) (not (eqb p 1)) (eqb p 1))
digits_differ =
    two_digits (λ p q. (differ p q < 2) × (eqb (differ p q) 1 ≡ cond (eqb q 1) (not (eqb p 1)) (eqb p 1)))
    (omega arith, refl) (omega arith, refl) (omega arith, refl) (omega arith, refl)

-- one that is turned where b has a one
pub bit_xor_lem : (a b k : ℕ) → bit (bit_xor a b) k ≡ cond (bit b k) (not (bit a k)) (bit a k)
unfolding bit
bit_xor_lem a b k =
    let p = a / 2 ^ k in
    let q = b / 2 ^ k in
    let d = digits_differ (p % 2) (q % 2) (mod-lt p (omega arith)) (mod-lt q (omega arith)) in
    let low : bit_xor p q % 2 ≡ differ (p % 2) (q % 2) = omega (arith, xor_step p q, d.0) in
    rw (xor_shr, low) d.1

-- ---- halves and shifts

bit_half : (a k : ℕ) → bit a (suc k) ≡ bit (a / 2) k
unfolding bit
bit_half a k = rw (pow-suc 2 k, mul_comm (2 ^ k) 2, ← div-div-eq-div-mul)

pub bit_zero : (k : ℕ) → bit 0 k ≡ false
unfolding bit
bit_zero k = rw zero-div

div_one_mod : (x : ℕ) → x / 1 % 2 ≡ x % 2
div_one_mod x = omega arith

pub bit_shl : (a j k : ℕ) → bit (a * 2 ^ j) k ≡ (leb j k && bit a (k - j))
unfolding bit
bit_shl a zero k = rw (mul-one, leb-zero, sub-zero)
bit_shl a (suc j) zero = rw leb-suc-zero (ap (λ (r : ℕ). eqb r 1) (div_one_mod (a * 2 ^ suc j) ∙ shifted_even a j))
bit_shl a (suc j) (suc k) = bit_half (a * 2 ^ suc j) k ∙ rw (shifted_half, leb-suc-suc, suc-sub-suc) (bit_shl a j k)

bit_one : (k : ℕ) → bit 1 k ≡ eqb k 0
unfolding bit
bit_one zero = refl
bit_one (suc k) = bit_half 1 k ∙ bit_zero k ∙ sym (ne_eqb (suc k) 0 (λ q. omega arith))

bit_power : (k j : ℕ) → bit (2 ^ k) j ≡ eqb j k
bit_power k j = ap (λ (x : ℕ). bit x j) (sym (one-mul (2 ^ k))) ∙ bit_shl 1 k j ∙ ap (λ (b : Bool). leb k j && b) (bit_one (j - k)) ∙ at (leb k j) refl
  where
    at : (b : Bool) → leb k j ≡ b → (b && eqb (j - k) 0) ≡ eqb j k
    at true e = same (eqb j k) refl
      where
        same : (c : Bool) → eqb j k ≡ c → eqb (j - k) 0 ≡ c
        same true q = let p = eqb-true j k q in eq-eqb (j - k) 0 (omega arith)
        same false q = let l = leb-true k j e in ne_eqb (j - k) 0 (λ r. eqb-false j k q (omega arith))
    at false e = let l = leb-false k j e in sym (ne_eqb j k (λ q. omega arith))

-- a number below 2 ^ n has no bit from n on
pub bit_beyond : (n k x : ℕ) → x < 2 ^ n → n ≤ k → bit x k ≡ false
unfolding bit
bit_beyond n k x h l = rw (div-eq_of_lt (lt_of_lt_of_le h (pow-le-pow_right {n = 2} (omega arith) {i = n} {j = k} l)))

-- ---- flags, raised and cleared bits

pub bit_flag : (on : Bool) (k j : ℕ) → bit (flag on k) j ≡ (on && eqb j k)
unfolding flag
bit_flag true k j = bit_power k j
bit_flag false k j = bit_zero j

pub bit_raised : (x : ℕ) (on : Bool) (k j : ℕ) → bit (raised x on k) j ≡ (bit x j || on && eqb j k)
unfolding raised
bit_raised x true k j = bit_or_lem x (2 ^ k) j ∙ ap (λ (b : Bool). bit x j || b) (bit_power k j)
bit_raised x false k j = sym (or-false (bit x j))

flip : (p q : ℕ) → p < 2 → q ≡ 1 - p → eqb q 1 ≡ not (eqb p 1)
flip zero q h e = rw e
flip (suc zero) q h e = rw e
flip (suc (suc p)) q h e = absurd (omega arith)

-- the complement at n bits
bit_not : (n k x : ℕ) → x < 2 ^ n → k < n → bit (2 ^ n - 1 - x) k ≡ not (bit x k)
unfolding bit
bit_not zero k x p q = absurd (omega arith)
bit_not (suc n) zero x p q = flip (x / 1 % 2) ((2 ^ suc n - 1 - x) / 1 % 2) (omega arith) (omega arith)
bit_not (suc n) (suc k) x p q =
    let half : (2 ^ suc n - 1 - x) / 2 ≡ 2 ^ n - 1 - x / 2 = omega arith in
    bit_half (2 ^ suc n - 1 - x) k ∙ rw half (bit_not n k (x / 2) (omega arith) (omega arith)) ∙ ap not (sym (bit_half x k))

pub bit_cleared : (x y k : ℕ) → y < 2 ^ 32 → k < 32 → bit (cleared x y) k ≡ (bit x k && not (bit y k))
unfolding cleared
bit_cleared x y k h l = bit_and_lem x (2 ^ 32 - 1 - y) k ∙ ap (λ (b : Bool). bit x k && b) (bit_not 32 k y h l)

lt_power : (n : ℕ) → n < 2 ^ n
lt_power zero = omega arith
lt_power (suc n) = omega (arith, lt_power n)

-- ones below n
pub bit_ones : (n k : ℕ) → bit (2 ^ n - 1) k ≡ ltb k n
unfolding bit
bit_ones zero k = bit_zero k ∙ sym (le-ltb k 0 (omega arith))
bit_ones (suc n) zero = let d : (2 ^ suc n - 1) / 1 % 2 ≡ 1 = omega (arith, lt_power n) in rw d (sym (lt-ltb 0 (suc n) (omega arith)))
bit_ones (suc n) (suc k) =
    let half : (2 ^ suc n - 1) / 2 ≡ 2 ^ n - 1 = omega (arith, lt_power n) in
    bit_half (2 ^ suc n - 1) k ∙ rw half (bit_ones n k) ∙ sym (leb-suc-suc (suc k) n)

-- the n lowest bits, and those from m on
pub bit_low : (n x j : ℕ) → bit (x % 2 ^ n) j ≡ (ltb j n && bit x j)
bit_low n x j = rw (← and_mask, bit_and_lem, bit_ones) (and_comm (bit x j) (ltb j n))

pub bit_shr : (x m j : ℕ) → bit (x / 2 ^ m) j ≡ bit x (m + j)
unfolding bit
bit_shr x m j = rw (pow-add, ← div-div-eq-div-mul)

-- ---- numbers with the same bits are equal

same_digit : (p q : ℕ) → p < 2 → q < 2 → eqb p 1 ≡ eqb q 1 → p ≡ q
same_digit zero zero h l e = refl
same_digit zero (suc zero) h l e = absurd (eqb-false 0 1 refl (eqb-true 0 1 e))
same_digit zero (suc (suc q)) h l e = absurd (omega arith)
same_digit (suc zero) zero h l e = absurd (eqb-false 0 1 refl (eqb-true 0 1 (sym e)))
same_digit (suc zero) (suc zero) h l e = refl
same_digit (suc zero) (suc (suc q)) h l e = absurd (omega arith)
same_digit (suc (suc p)) q h l e = absurd (omega arith)

bits_below : (n a b : ℕ) → a < 2 ^ n → b < 2 ^ n → ((k : ℕ) → bit a k ≡ bit b k) → a ≡ b
unfolding bit
bits_below zero a b ha hb h = omega arith
bits_below (suc n) a b ha hb h =
    let low = same_digit (a / 1 % 2) (b / 1 % 2) (omega arith) (omega arith) (h 0) in
    let high = bits_below n (a / 2) (b / 2) (omega arith) (omega arith) (λ k. sym (bit_half a k) ∙ h (suc k) ∙ bit_half b k) in
    omega arith

pub by_bits : (a b : ℕ) → ((k : ℕ) → bit a k ≡ bit b k) → a ≡ b
by_bits a b h = bits_below (a + b) a b (omega (arith, lt_power (a + b))) (omega (arith, lt_power (a + b))) h

-- what is turned twice is as it was
pub xor_twice : (a b : ℕ) → bit_xor a (bit_xor a b) ≡ b
xor_twice a b = by_bits _ b (λ k. bit_xor_lem a (bit_xor a b) k ∙ rw (bit_xor_lem a b k) (turned (bit a k) (bit b k)))
  where
    turned : (p q : Bool) → cond (cond q (not p) p) (not p) p ≡ q
    turned true true = refl
    turned true false = refl
    turned false true = refl
    turned false false = refl

-- ---- no bit other than those of y

abbrev pub Only : ℕ → ℕ → Type 0
Only y x = bit_and x y ≡ x

pub only_or : (y a b : ℕ) → Only y a → Only y b → Only y (bit_or a b)
only_or y a b p q =
    by_bits (bit_and (bit_or a b) y) (bit_or (bit_and a y) (bit_and b y)) (λ k. simp (bit_and_lem, bit_or_lem) (and-or_distrib_right (bit a k) (bit b k) (bit y k)))
    ∙ ap₂ (λ (c d : ℕ). bit_or c d) p q

pub only_and : (y a b : ℕ) → Only y b → Only y (bit_and a b)
only_and y a b q =
    by_bits (bit_and (bit_and a b) y) (bit_and a (bit_and b y)) (λ k. simp bit_and_lem (and_assoc (bit a k) (bit b k) (bit y k))) ∙ ap (λ (c : ℕ). bit_and a c) q

and_swap : (a b : ℕ) → bit_and a b ≡ bit_and b a
and_swap a b = by_bits (bit_and a b) (bit_and b a) (λ k. simp bit_and_lem (and_comm (bit a k) (bit b k)))

pub only_and_left : (y a b : ℕ) → Only y a → Only y (bit_and a b)
only_and_left y a b p = ap (λ (c : ℕ). bit_and c y) (and_swap a b) ∙ only_and y b a p ∙ and_swap b a

pub only_raised : (y x k : ℕ) (on : Bool) → Only y x → Only y (2 ^ k) → Only y (raised x on k)
unfolding raised
only_raised y x k true p q = only_or y x (2 ^ k) p q
only_raised y x k false p q = p

pub is_only : (y x : ℕ) → only y x ≡ true → Only y x
unfolding only
is_only y x e = eqb-true (bit_and x y) x e

pub only_is : (y x : ℕ) → Only y x → only y x ≡ true
unfolding only
only_is y x e = eq-eqb (bit_and x y) x e
