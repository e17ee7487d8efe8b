-- Digits in the bytes of a number, all at once.
--     carry, digits_by               what `texts_at` adds to numbers in bytes makes each of them its digit
--     text_bytes_small               those digits are bytes
--     eight_are                      the same of eight
--     bytes_picked, numbers_picked   the bytes of a number and their digits, by what is joined and masked
--     eight_at                       the eight digits of a number
use Prim.Native.Nat.{ℕ, zero, suc, ◌+◌, ◌*◌, ◌/◌, ◌%◌, ◌^◌, ◌<◌}
use mathlib.Core.Path.{◌≡◌, refl, ◌∙◌}
use mathlib.Core.List.{List, [], ◌∷◌}
use native.Mathlib.Omega.{arith}
use lib.ListN.{get_or}
use lib.Dec.{ltb, eqb, lit<}
use lib.Bits.{bit_and, bit_or, and_block, and_mask, and_zero_r, or_zero_r, or_shifted_r, or_mod}
use borrow.Author.Tests.{eqb-true, ltb-true}
use Rattle.hex_digits.specs.Hex.{hex_digits, digit_of, digits}
use Rattle.eight.specs.Packed.{packed, Each}
use Rattle.eight.specs.Written.{lowest_in, texts_at}
use Rattle.eight.proofs.Packed.{picked, all_255}
use Rattle.laws.proofs.Below.{below_at}
use Rattle.std.specs.Int.{w64, from_le_bytes, to_le_bytes}
use Rattle.std.proofs.lemmas.Nat.{le_bytes_8}

-- a byte for each of some numbers: the same one; the digit
abbrev pub each : ℕ → List ℕ → ℕ
each k [] = 0
each k (x ∷ xs) = each k xs * 256 + k

abbrev pub texts : List ℕ → ℕ
texts [] = 0
texts (x ∷ xs) = texts xs * 256 + digit_of (x % 16)

abbrev pub text_bytes : List ℕ → List ℕ
text_bytes [] = []
text_bytes (x ∷ xs) = digit_of (x % 16) ∷ text_bytes xs

-- one digit
pub digit_by : (n : ℕ) → n < 16 → n + 48 + (n + 6) / 16 * 7 ≡ digit_of n
unfolding hex_digits digit_of
digit_by n h = eqb-true (n + 48 + (n + 6) / 16 * 7) (digit_of n) (below_at (λ k. eqb (k + 48 + (k + 6) / 16 * 7) (digit_of k)) 16 n refl h)

pub digit_small : (n : ℕ) → n < 16 → digit_of n < 256
unfolding hex_digits digit_of
digit_small n h = ltb-true (digit_of n) 256 (below_at (λ k. ltb (digit_of k) 256) 16 n refl h)

-- a carry out of the lowest byte, and those of the rest
carry : (r o n : ℕ) → n < 16 → bit_and ((r * 256 + (n + 6)) / 16) (o * 256 + 1) ≡ bit_and (r / 16) o * 256 + (n + 6) / 16
carry r o n h =
    let low = r % 16 * 16 + (n + 6) / 16 in
    let e : (r * 256 + (n + 6)) / 16 ≡ r / 16 * 2 ^ 8 + low = omega arith in
    let m : low % 2 ^ 1 ≡ (n + 6) / 16 = omega arith in
    rw e (and_block 8 (r / 16) o low 1 (omega arith) (lit< tt) ∙ rw (and_mask low 1, m))

pub digits_by : (xs : List ℕ) → lowest_in xs + each 48 xs + bit_and ((lowest_in xs + each 6 xs) / 16) (each 1 xs) * 7 ≡ texts xs
unfolding lowest_in
digits_by [] = refl
digits_by (x ∷ xs) =
    let before = digits_by xs in
    let r = lowest_in xs + each 6 xs in
    let n = x % 16 in
    let h : n < 16 = omega arith in
    let e : lowest_in xs * 256 + n + (each 6 xs * 256 + 6) ≡ r * 256 + (n + 6) = omega arith in
    rw (e, carry r (each 1 xs) n h, ← digit_by n h) (omega arith)

text_bytes_small : (xs : List ℕ) (i : ℕ) → get_or (text_bytes xs) i 0 < 256
text_bytes_small [] i = lit< tt
text_bytes_small (x ∷ xs) zero = digit_small (x % 16) (omega arith)
text_bytes_small (x ∷ xs) (suc i) = text_bytes_small xs i

-- ---- eight of them

pub eight_are : (a b c d e f g h : ℕ) → texts_at (lowest_in (a ∷ b ∷ c ∷ d ∷ e ∷ f ∷ g ∷ h ∷ [])) ≡ texts (a ∷ b ∷ c ∷ d ∷ e ∷ f ∷ g ∷ h ∷ [])
unfolding texts_at
eight_are a b c d e f g h = digits_by (a ∷ b ∷ c ∷ d ∷ e ∷ f ∷ g ∷ h ∷ [])

-- what a mask of four bits takes of two bytes joined: where the second has none, and where the first has none there
higher : (a : ℕ) → bit_and (bit_or (a / 16) 0) 15 ≡ a / 16 % 16
higher a = rw (or_zero_r (a / 16)) (and_mask (a / 16) 4)

lower : (b a : ℕ) → bit_and (bit_or (b % 16 * 16) a) 15 ≡ a % 16
lower b a =
    let none : b % 16 * 16 % 16 ≡ 0 = omega arith in
    and_mask (bit_or (b % 16 * 16) a) 4 ∙ or_mod (b % 16 * 16) a 4 ∙ rw none

-- the halves of a number in 32 bits each, the higher lowest
pub halves_apart : (w : ℕ) → w < 0x1_0000_0000
    → bit_or (w / 0x1_0000) (bit_and w 0xFFFF * 0x1_0000_0000 % 0x1_0000_0000_0000_0000) ≡ w / 0x100 % 256 * 0x100_0000_0000 + w % 256 * 0x1_0000_0000 + w / 0x100_0000 * 0x100 + w / 0x1_0000 % 256
halves_apart w h =
    let low : bit_and w 0xFFFF ≡ w % 0x1_0000 = and_mask w 16 in
    let up : w % 0x1_0000 * 0x1_0000_0000 % 0x1_0000_0000_0000_0000 ≡ w % 0x1_0000 * 0x1_0000_0000 = omega arith in
    let lower : w % 0x1_0000 ≡ w / 0x100 % 256 * 256 + w % 256 = omega arith in
    let upper : w / 0x1_0000 ≡ w / 0x100_0000 * 256 + w / 0x1_0000 % 256 = omega arith in
    rw (low, up) (or_shifted_r (w % 0x1_0000) 32 (w / 0x1_0000) (omega arith) ∙ sum (w % 0x1_0000) (w / 0x1_0000) (w / 0x100 % 256) (w % 256) (w / 0x100_0000) (w / 0x1_0000 % 256) lower upper)
  where
    sum : (low high c d a b : ℕ) → low ≡ c * 256 + d → high ≡ a * 256 + b → low * 0x1_0000_0000 + high ≡ c * 0x100_0000_0000 + d * 0x1_0000_0000 + a * 0x100 + b
    sum low high c d a b p q = omega arith

module _ (a b c d : ℕ) (e : Each 256 (a ∷ b ∷ c ∷ d ∷ [])) where
  -- halves that have changed places, then bytes
  pub bytes_picked : (u : ℕ) → u ≡ c * 0x100_0000_0000 + d * 0x1_0000_0000 + a * 0x100 + b
      → bit_and (bit_or (u / 0x100) (u * 0x1_0000 % 0x1_0000_0000_0000_0000)) 0x00FF_00FF_00FF_00FF ≡ packed (a ∷ 0 ∷ b ∷ 0 ∷ c ∷ 0 ∷ d ∷ 0 ∷ [])
  bytes_picked u q =
      let down : u / 0x100 ≡ packed (a ∷ 0 ∷ 0 ∷ d ∷ c ∷ 0 ∷ 0 ∷ 0 ∷ []) = omega arith in
      let up : u * 0x1_0000 % 0x1_0000_0000_0000_0000 ≡ packed (0 ∷ 0 ∷ b ∷ a ∷ 0 ∷ 0 ∷ d ∷ c ∷ []) = omega arith in
      rw (down, up)
      (picked (a ∷ 0 ∷ 0 ∷ d ∷ c ∷ 0 ∷ 0 ∷ 0 ∷ []) (0 ∷ 0 ∷ b ∷ a ∷ 0 ∷ 0 ∷ d ∷ c ∷ []) (255 ∷ 0 ∷ 255 ∷ 0 ∷ 255 ∷ 0 ∷ 255 ∷ 0 ∷ [])
      (omega arith, (omega arith, (omega arith, (omega arith, (omega arith, (omega arith, (omega arith, (omega arith, tt))))))))
      (omega arith, (omega arith, (omega arith, (omega arith, (omega arith, (omega arith, (omega arith, (omega arith, tt))))))))
      (omega arith, (omega arith, (omega arith, (omega arith, (omega arith, (omega arith, (omega arith, (omega arith, tt))))))))
      ∙ rw (or_zero_r a, or_zero_r c, and_zero_r (bit_or d a), and_zero_r c, all_255 a e.0, all_255 b e.1.0, all_255 c e.1.1.0, all_255 d e.1.1.1.0))

  pub apart_small : packed (a ∷ 0 ∷ b ∷ 0 ∷ c ∷ 0 ∷ d ∷ 0 ∷ []) < 0x100_0000_0000_0000
  apart_small = omega arith

  -- of a byte its two digits
  pub numbers_picked : (z : ℕ) → z ≡ packed (a ∷ 0 ∷ b ∷ 0 ∷ c ∷ 0 ∷ d ∷ 0 ∷ [])
      → bit_and (bit_or (z / 16) (z * 0x100 % 0x1_0000_0000_0000_0000)) 0x0F0F_0F0F_0F0F_0F0F ≡ lowest_in (a / 16 ∷ a ∷ b / 16 ∷ b ∷ c / 16 ∷ c ∷ d / 16 ∷ d ∷ [])
  unfolding lowest_in
  numbers_picked z q =
      let down : z / 16 ≡ packed (a / 16 ∷ b % 16 * 16 ∷ b / 16 ∷ c % 16 * 16 ∷ c / 16 ∷ d % 16 * 16 ∷ d / 16 ∷ 0 ∷ []) = omega arith in
      let up : z * 0x100 % 0x1_0000_0000_0000_0000 ≡ packed (0 ∷ a ∷ 0 ∷ b ∷ 0 ∷ c ∷ 0 ∷ d ∷ []) = omega arith in
      rw (down, up)
      (picked (a / 16 ∷ b % 16 * 16 ∷ b / 16 ∷ c % 16 * 16 ∷ c / 16 ∷ d % 16 * 16 ∷ d / 16 ∷ 0 ∷ []) (0 ∷ a ∷ 0 ∷ b ∷ 0 ∷ c ∷ 0 ∷ d ∷ []) (15 ∷ 15 ∷ 15 ∷ 15 ∷ 15 ∷ 15 ∷ 15 ∷ 15 ∷ [])
      (omega arith, (omega arith, (omega arith, (omega arith, (omega arith, (omega arith, (omega arith, (omega arith, tt))))))))
      (omega arith, (omega arith, (omega arith, (omega arith, (omega arith, (omega arith, (omega arith, (omega arith, tt))))))))
      (omega arith, (omega arith, (omega arith, (omega arith, (omega arith, (omega arith, (omega arith, (omega arith, tt))))))))
      ∙ rw (higher a, higher b, higher c, higher d, lower b a, lower c b, lower d c, and_mask d 4))

module _ (x : ℕ) where
  abbrev parts : List ℕ
  parts = x / 0x100_0000 / 16 ∷ x / 0x100_0000 ∷ x / 0x1_0000 % 256 / 16 ∷ x / 0x1_0000 % 256 ∷ x / 0x100 % 256 / 16 ∷ x / 0x100 % 256 ∷ x % 256 / 16 ∷ x % 256 ∷ []

  parts_texts : text_bytes parts ≡ digits 8 x
  unfolding digits
  parts_texts =
      let p7 : x / 0x100_0000 / 16 % 16 ≡ x / 16 / 16 / 16 / 16 / 16 / 16 / 16 % 16 = omega arith in
      let p6 : x / 0x100_0000 % 16 ≡ x / 16 / 16 / 16 / 16 / 16 / 16 % 16 = omega arith in
      let p5 : x / 0x1_0000 % 256 / 16 % 16 ≡ x / 16 / 16 / 16 / 16 / 16 % 16 = omega arith in
      let p4 : x / 0x1_0000 % 256 % 16 ≡ x / 16 / 16 / 16 / 16 % 16 = omega arith in
      let p3 : x / 0x100 % 256 / 16 % 16 ≡ x / 16 / 16 / 16 % 16 = omega arith in
      let p2 : x / 0x100 % 256 % 16 ≡ x / 16 / 16 % 16 = omega arith in
      let p1 : x % 256 / 16 % 16 ≡ x / 16 % 16 = omega arith in
      let p0 : x % 256 % 16 ≡ x % 16 = omega arith in
      λ i. digit_of (p7 i) ∷ digit_of (p6 i) ∷ digit_of (p5 i) ∷ digit_of (p4 i) ∷ digit_of (p3 i) ∷ digit_of (p2 i) ∷ digit_of (p1 i) ∷ digit_of (p0 i) ∷ []

  pub eight_at : (n : ℕ) → n ≡ lowest_in parts → to_le_bytes w64 (texts_at n) ≡ digits 8 x
  eight_at n e =
      let is : texts_at n ≡ from_le_bytes w64 (text_bytes parts) = rw (e, eight_are) (omega arith) in
      le_bytes_8 (text_bytes parts) (texts_at n) refl (text_bytes_small parts) is ∙ parts_texts
