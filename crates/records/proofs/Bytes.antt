-- Laws of bytes.
--     below_append, below_take, below_drop, bytes_below     numbers below a bound, joined and in part; the bytes of words
--     words_back               the words of the bytes of words
--     length_bytes             four bytes to a word
--     bytes_in_lem                 the bytes of written bytes
--     hexes_are, length_hexes  written bytes are digits, two to a byte
--     total_append, check_zero the sum of bytes joined, and with the last byte
use Prim.Native.Nat.{ℕ, zero, suc, ◌+◌, ◌*◌, ◌/◌, ◌%◌, ◌^◌, ◌<◌}
use mathlib.Core.Path.{◌≡◌, refl, ◌∙◌}
use mathlib.Core.Bool.{true}
use mathlib.Core.List.{List, [], ◌∷◌, ◌++◌}
use native.Mathlib.Nat.{div-div-eq-div-mul}
use native.Mathlib.Omega.{arith}
use lib.ListN.{length, take, drop}
use Rattle.hex_digits.specs.Hex.{digit_number, digit_of, digits, all_digits}
use Rattle.hex_digits.proofs.Numbers.{number_is, digits_are, all_append}
use Rattle.eight.specs.Packed.{Each}
use Rattle.records.specs.Window.{window_bytes, window_words}
use Rattle.records.specs.Record.{total, check, hexes}
use Rattle.records.specs.Load.{bytes_in}

pub below_append : (m : ℕ) (xs ys : List ℕ) → Each m xs → Each m ys → Each m (xs ++ ys)
below_append m [] ys h k = k
below_append m (x ∷ xs) ys h k = (h.0, below_append m xs ys h.1 k)

pub below_take : (m n : ℕ) (xs : List ℕ) → Each m xs → Each m (take n xs)
below_take m zero xs h = tt
below_take m (suc n) [] h = tt
below_take m (suc n) (x ∷ xs) h = (h.0, below_take m n xs h.1)

pub below_drop : (m n : ℕ) (xs : List ℕ) → Each m xs → Each m (drop n xs)
below_drop m zero xs h = h
below_drop m (suc n) [] h = tt
below_drop m (suc n) (x ∷ xs) h = below_drop m n xs h.1

pub bytes_below : (ws : List ℕ) → Each 256 (window_bytes ws)
unfolding window_bytes
bytes_below [] = tt
bytes_below (w ∷ ws) = (omega arith, (omega arith, (omega arith, (omega arith, bytes_below ws))))

pub length_bytes : (ws : List ℕ) → length (window_bytes ws) ≡ 4 * length ws
unfolding window_bytes
length_bytes [] = refl
length_bytes (w ∷ ws) = omega (arith, length_bytes ws)

word_back : (w : ℕ) → w < 2 ^ 32 → w % 256 + 256 * (w / 256 % 256) + 65536 * (w / 65536 % 256) + 16777216 * (w / 16777216 % 256) ≡ w
word_back w h = rw (← div-div-eq-div-mul w 65536 256, ← div-div-eq-div-mul w 256 256) (nested w (w / 256) (w / 256 / 256) (w / 256 / 256 / 256) refl refl refl h)
  where
    nested : (w q s t : ℕ) → q ≡ w / 256 → s ≡ q / 256 → t ≡ s / 256 → w < 2 ^ 32 → w % 256 + 256 * (q % 256) + 65536 * (s % 256) + 16777216 * (t % 256) ≡ w
    nested w q s t e f k h = omega arith

pub words_back : (ws : List ℕ) → Each (2 ^ 32) ws → window_words (window_bytes ws) ≡ ws
unfolding window_bytes window_words
words_back [] h = refl
words_back (w ∷ ws) h = rw (word_back w h.0, words_back ws h.1)

byte_back : (b : ℕ) → b < 256 → digit_number (digit_of (b / 16 % 16)) % 16 * 16 + digit_number (digit_of (b % 16)) % 16 ≡ b
byte_back b h = rw (number_is (b / 16 % 16) (omega arith), number_is (b % 16) (omega arith)) (omega arith)

pub bytes_in_lem : (bs rest : List ℕ) → Each 256 bs → bytes_in (hexes bs ++ rest) ≡ bs ++ bytes_in rest
unfolding hexes bytes_in digits
bytes_in_lem [] rest h = refl
bytes_in_lem (b ∷ bs) rest h = rw (byte_back b h.0, bytes_in_lem bs rest h.1)

pub hexes_are : (bs : List ℕ) → all_digits (hexes bs) ≡ true
unfolding hexes all_digits
hexes_are [] = refl
hexes_are (b ∷ bs) = all_append (digits 2 b) (hexes bs) ∙ rw (digits_are 2 b, hexes_are bs)

pub length_hexes : (bs : List ℕ) → length (hexes bs) ≡ 2 * length bs
unfolding hexes digits
length_hexes [] = refl
length_hexes (b ∷ bs) = omega (arith, length_hexes bs)

pub total_append : (xs ys : List ℕ) → total (xs ++ ys) ≡ total xs + total ys
unfolding total
total_append [] ys = omega arith
total_append (x ∷ xs) ys = omega (arith, total_append xs ys)

pub check_zero : (bs : List ℕ) → total (bs ++ (check bs ∷ [])) % 256 ≡ 0
unfolding check total
check_zero bs = rw (total_append bs (check bs ∷ [])) (omega arith)
