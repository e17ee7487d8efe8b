-- Masks and sums on packed bytes are masks and sums on each.
use Prim.Native.Nat.{ℕ, suc, ◌+◌, ◌*◌, ◌/◌, ◌%◌, ◌≤◌, ◌<◌}
use mathlib.Core.Path.{◌≡◌, refl, sym, ap, subst, ◌∙◌}
use mathlib.Core.Bool.{Bool, true, false, cond, ◌&&◌, true≢false}
use mathlib.Core.List.{List, [], ◌∷◌, map}
use native.Mathlib.Omega.{arith}
use native.Mathlib.Decide.{ℕ_discrete}
use lib.Dec.{eqb, ltb}
use lib.Bits.{bit_and, bit_or, bit_xor, and_le_l, and_le_r, and_zero_l, and_zero_r, and_block, and_mask, and_high, or_add_and, or_zero_l, or_zero_r, or_block, or_lt, xor_add_and, xor_self}
use lib.ListN.{length, get_or, replicate, length-map}
use Rattle.std.specs.Int.{w64, from_le_bytes}
use borrow.Author.Tests.{ltb-true, eqb-true, eq-eqb, ne_eqb}
use Rattle.hex_digits.specs.Hex.{hex_digits, place_in, digit_number, all_digits, number_from}
use Rattle.laws.proofs.Below.{both, below_at}
use Rattle.eight.specs.Packed.{packed, Each, number_in, numbers_in, joined_from}

-- ---- masks

pub and_packed : (m : ℕ) → m < 256 → (bs : List ℕ) → Each 256 bs → bit_and (packed bs) (packed (replicate (length bs) m)) ≡ packed (map (λ b. bit_and b m) bs)
and_packed m h [] e = refl
and_packed m h (b ∷ bs) e =
    and_block 8 (packed bs) (packed (replicate (length bs) m)) b m e.0 h ∙ rw (and_packed m h bs e.1)

-- ---- the same function of each byte, of two that agree

pub packed_map : (f g : ℕ → ℕ) → ((b : ℕ) → f b ≡ g b) → (bs : List ℕ) → packed (map f bs) ≡ packed (map g bs)
packed_map f g e [] = refl
packed_map f g e (b ∷ bs) = rw (packed_map f g e bs, e b)

pub packed_const : (k : ℕ) (bs : List ℕ) → packed (map (λ b. k) bs) ≡ packed (replicate (length bs) k)
packed_const k [] = refl
packed_const k (b ∷ bs) = rw (packed_const k bs)

pub packed_add : (f g : ℕ → ℕ) (bs : List ℕ) → packed (map f bs) + packed (map g bs) ≡ packed (map (λ b. f b + g b) bs)
packed_add f g [] = refl
packed_add f g (b ∷ bs) = let h = packed_add f g bs in omega arith

pub packed_7 : (f : ℕ → ℕ) (bs : List ℕ) → packed (map f bs) * 7 ≡ packed (map (λ b. f b * 7) bs)
packed_7 f [] = refl
packed_7 f (b ∷ bs) = let h = packed_7 f bs in omega arith

pub packed_9 : (f : ℕ → ℕ) (bs : List ℕ) → packed (map f bs) * 9 ≡ packed (map (λ b. f b * 9) bs)
packed_9 f [] = refl
packed_9 f (b ∷ bs) = let h = packed_9 f bs in omega arith

packed_16 : (f : ℕ → ℕ) (bs : List ℕ) → packed (map f bs) * 16 ≡ packed (map (λ b. f b * 16) bs)
packed_16 f [] = refl
packed_16 f (b ∷ bs) = let h = packed_16 f bs in omega arith

packed_64 : (f : ℕ → ℕ) (bs : List ℕ) → packed (map f bs) * 64 ≡ packed (map (λ b. f b * 64) bs)
packed_64 f [] = refl
packed_64 f (b ∷ bs) = let h = packed_64 f bs in omega arith

-- ---- the bits that are looked at

pub low_four : (bs : List ℕ) → Each 256 bs → bit_and (packed bs) (packed (replicate (length bs) 15)) ≡ packed (map (λ b. b % 16) bs)
low_four bs e = and_packed 15 (omega arith) bs e ∙ packed_map (λ b. bit_and b 15) (λ b. b % 16) (λ b. and_mask b 4) bs

pub bit_six : (bs : List ℕ) → Each 256 bs → bit_and (packed bs) (packed (replicate (length bs) 64)) / 64 ≡ packed (map (λ b. b / 64 % 2) bs)
bit_six bs e =
    let m = and_packed 64 (omega arith) bs e ∙ packed_map (λ b. bit_and b 64) (λ b. b / 64 % 2 * 64) (λ b. and_high b 1 6) bs ∙ sym (packed_64 (λ b. b / 64 % 2) bs) in
    rw m (omega arith)

pub bit_four : (bs : List ℕ) → Each 256 bs → bit_and (packed bs) (packed (replicate (length bs) 16)) / 16 ≡ packed (map (λ b. b / 16 % 2) bs)
bit_four bs e =
    let m = and_packed 16 (omega arith) bs e ∙ packed_map (λ b. bit_and b 16) (λ b. b / 16 % 2 * 16) (λ b. and_high b 1 4) bs ∙ sym (packed_16 (λ b. b / 16 % 2) bs) in
    rw m (omega arith)

pub high_four : (bs : List ℕ) → Each 256 bs → bit_and (packed bs) (packed (replicate (length bs) 240)) ≡ packed (map (λ b. b / 16 % 16 * 16) bs)
high_four bs e = and_packed 240 (omega arith) bs e ∙ packed_map (λ b. bit_and b 240) (λ b. b / 16 % 16 * 16) (λ b. and_high b 4 4) bs

-- ---- what the bytes say

pub packed_numbers : (bs : List ℕ) → packed (map number_in bs) ≡ packed (numbers_in bs)
packed_numbers [] = refl
packed_numbers (b ∷ bs) = rw (packed_numbers bs)

pub numbers_packed : (bs : List ℕ) → length bs ≡ 8 → Each 256 bs
    → bit_and (packed bs) 0x0F0F_0F0F_0F0F_0F0F + bit_and (packed bs) 0x4040_4040_4040_4040 / 64 * 9 ≡ packed (numbers_in bs)
numbers_packed bs n e =
    let low : bit_and (packed bs) 0x0F0F_0F0F_0F0F_0F0F ≡ packed (map (λ b. b % 16) bs) = rw n at (low_four bs e) in
    let six : bit_and (packed bs) 0x4040_4040_4040_4040 / 64 ≡ packed (map (λ b. b / 64 % 2) bs) = rw n at (bit_six bs e) in
    rw (low, six, packed_9 (λ b. b / 64 % 2) bs) (packed_add (λ b. b % 16) (λ b. b / 64 % 2 * 9) bs ∙ packed_numbers bs)

-- ---- whether they are digits

-- the digit of what a byte says, and the high bits of what it says
abbrev pub text_in : ℕ → ℕ
text_in b = number_in b + 48 + (number_in b + 6) / 16 % 2 * 7

abbrev pub high_in : ℕ → ℕ
high_in b = number_in b / 16 % 16 * 16

abbrev alike : Bool → Bool → Bool
alike true b = b
alike false true = false
alike false false = true

alike_is : (a b : Bool) → alike a b ≡ true → a ≡ b
alike_is true true e = refl
alike_is true false e = sym e
alike_is false true e = e
alike_is false false e = refl

lane : (b : ℕ) → b < 256 → (eqb (text_in b) b && eqb (high_in b) 0) ≡ ltb (digit_number b) 16
unfolding hex_digits place_in digit_number
lane b h = alike_is _ _ (below_at (λ n. alike (eqb (text_in n) n && eqb (high_in n) 0) (ltb (digit_number n) 16)) 256 b refl h)

if_digit : (a b : Bool) → cond a b true ≡ true → a ≡ true → b ≡ true
if_digit true b e h = e
if_digit false b e h = absurd (true≢false (sym h))

pub lane_number : (b : ℕ) → b < 256 → ltb (digit_number b) 16 ≡ true → number_in b ≡ digit_number b
unfolding hex_digits place_in digit_number
lane_number b h d =
    eqb-true (number_in b) (digit_number b) (if_digit (ltb (digit_number b) 16) _ (below_at (λ n. cond (ltb (digit_number n) 16) (eqb (number_in n) (digit_number n)) true) 256 b refl h) d)

split : (x y t b : ℕ) → t < 256 → b < 256 → eqb (x * 256 + t) (y * 256 + b) ≡ (eqb x y && eqb t b)
split x y t b h k = by (ℕ_discrete x y) (ℕ_discrete t b)
  where
    by : Dec (x ≡ y) → Dec (t ≡ b) → eqb (x * 256 + t) (y * 256 + b) ≡ (eqb x y && eqb t b)
    by (yes p) (yes q) = rw (eq-eqb x y p, eq-eqb t b q) (eq-eqb (x * 256 + t) (y * 256 + b) (omega arith))
    by (yes p) (no q) = rw (eq-eqb x y p, ne_eqb t b q) (ne_eqb (x * 256 + t) (y * 256 + b) (λ e. q (omega arith)))
    by (no p) q = rw (ne_eqb x y p) (ne_eqb (x * 256 + t) (y * 256 + b) (λ e. p (omega arith)))

turn : (a b c d : Bool) → ((a && b) && (c && d)) ≡ ((b && d) && (a && c))
turn true true true true = refl
turn true true true false = refl
turn true true false true = refl
turn true true false false = refl
turn true false true true = refl
turn true false true false = refl
turn true false false true = refl
turn true false false false = refl
turn false true true true = refl
turn false true true false = refl
turn false true false true = refl
turn false true false false = refl
turn false false true true = refl
turn false false true false = refl
turn false false false true = refl
turn false false false false = refl

checks : (bs : List ℕ) → Each 256 bs → (eqb (packed (map text_in bs)) (packed bs) && eqb (packed (map high_in bs)) 0) ≡ all_digits bs
unfolding all_digits
checks [] e = refl
checks (b ∷ bs) e =
    rw (split (packed (map text_in bs)) (packed bs) (text_in b) b (omega arith) e.0, split (packed (map high_in bs)) 0 (high_in b) 0 (omega arith) (omega arith))
    (turn (eqb (packed (map text_in bs)) (packed bs)) (eqb (text_in b) b) (eqb (packed (map high_in bs)) 0) (eqb (high_in b) 0)
    ∙ (λ i. lane b e.0 i && checks bs e.1 i))

pub map_map : (f g : ℕ → ℕ) (bs : List ℕ) → map f (map g bs) ≡ map (λ b. f (g b)) bs
map_map f g [] = refl
map_map f g (b ∷ bs) = rw (map_map f g bs)

each_map : (f : ℕ → ℕ) → ((b : ℕ) → b < 256 → f b < 256) → (bs : List ℕ) → Each 256 bs → Each 256 (map f bs)
each_map f h [] e = tt
each_map f h (b ∷ bs) e = (h b e.0, each_map f h bs e.1)

-- two numbers are alike and a third is zero, in one test
one_test : (t v h : ℕ) → eqb (bit_or (bit_xor t v) h) 0 ≡ (eqb t v && eqb h 0)
one_test t v h = by (ℕ_discrete t v) (ℕ_discrete h 0)
  where
    sums : bit_or (bit_xor t v) h + bit_and (bit_xor t v) h ≡ bit_xor t v + h
    sums = or_add_and (bit_xor t v) h

    by : Dec (t ≡ v) → Dec (h ≡ 0) → eqb (bit_or (bit_xor t v) h) 0 ≡ (eqb t v && eqb h 0)
    by (yes p) (yes q) = rw (p, q, xor_self v, eq-eqb v v refl)
    by (yes p) (no q) =
        rw (eq-eqb t v p, ne_eqb h 0 q) (ne_eqb (bit_or (bit_xor t v) h) 0 (λ e. q (omega (arith, sums, and_le_l (bit_xor t v) h))))
    by (no p) q =
        rw (ne_eqb t v p)
        (ne_eqb (bit_or (bit_xor t v) h) 0 (λ e. p (omega (arith, sums, and_le_r (bit_xor t v) h, xor_add_and t v, and_le_l t v, and_le_r t v))))

pub digits_packed : (bs : List ℕ) (d : ℕ) → length bs ≡ 8 → Each 256 bs → d ≡ packed (numbers_in bs)
    → eqb (bit_or (bit_xor (d + 0x3030_3030_3030_3030 + bit_and (d + 0x0606_0606_0606_0606) 0x1010_1010_1010_1010 / 16 * 7) (packed bs)) (bit_and d 0xF0F0_F0F0_F0F0_F0F0)) 0 ≡ all_digits bs
digits_packed bs d n e q =
    let says : d ≡ packed (map number_in bs) = q ∙ sym (packed_numbers bs) in
    let six : packed (map (λ b. 6) bs) ≡ 0x0606_0606_0606_0606 = rw n at (packed_const 6 bs) in
    let zero : packed (map (λ b. 48) bs) ≡ 0x3030_3030_3030_3030 = rw n at (packed_const 48 bs) in
    let more : d + 0x0606_0606_0606_0606 ≡ packed (map (λ b. number_in b + 6) bs) = rw (says, ← six) (packed_add number_in (λ b. 6) bs) in
    let wide : length (map (λ b. number_in b + 6) bs) ≡ 8 = length-map bs (λ b. number_in b + 6) ∙ n in
    let letters : bit_and (d + 0x0606_0606_0606_0606) 0x1010_1010_1010_1010 / 16 ≡ packed (map (λ b. (number_in b + 6) / 16 % 2) bs) =
    rw more (rw (wide, map_map (λ b. b / 16 % 2) (λ b. number_in b + 6) bs) at (bit_four (map (λ b. number_in b + 6) bs) (each_map (λ b. number_in b + 6) (λ b h. omega arith) bs e))) in
    let text : d + 0x3030_3030_3030_3030 + bit_and (d + 0x0606_0606_0606_0606) 0x1010_1010_1010_1010 / 16 * 7 ≡ packed (map text_in bs) =
    rw (letters, packed_7 (λ b. (number_in b + 6) / 16 % 2) bs, says, ← zero, packed_add number_in (λ b. 48) bs)
    (packed_add (λ b. number_in b + 48) (λ b. (number_in b + 6) / 16 % 2 * 7) bs) in
    let long : length (map number_in bs) ≡ 8 = length-map bs number_in ∙ n in
    let high : bit_and d 0xF0F0_F0F0_F0F0_F0F0 ≡ packed (map high_in bs) =
    rw says (rw (long, map_map (λ b. b / 16 % 16 * 16) number_in bs) at (high_four (map number_in bs) (each_map number_in (λ b h. omega arith) bs e))) in
    rw (text, high) (one_test (packed (map text_in bs)) (packed bs) (packed (map high_in bs)) ∙ checks bs e)

-- ---- the numbers of digits joined

pub numbers_of_digits : (bs : List ℕ) → Each 256 bs → all_digits bs ≡ true → (n : ℕ) → Each 16 (numbers_in bs) × (joined_from n (numbers_in bs) ≡ number_from n bs)
unfolding all_digits number_from
numbers_of_digits [] e d n = (tt, refl)
numbers_of_digits (b ∷ bs) e d n =
    let parts = both (ltb (digit_number b) 16) (all_digits bs) d in
    let is = lane_number b e.0 parts.0 in
    let rest = numbers_of_digits bs e.1 parts.1 (n * 16 + digit_number b) in
    ((omega (arith, is, ltb-true (digit_number b) 16 parts.0), rest.0), rw is rest.1)

-- masks that differ from byte to byte
abbrev pub ands : List ℕ → List ℕ → List ℕ
ands [] ms = []
ands (b ∷ bs) [] = []
ands (b ∷ bs) (m ∷ ms) = bit_and b m ∷ ands bs ms

pub and_lists : (bs ms : List ℕ) → Each 256 bs → Each 256 ms → bit_and (packed bs) (packed ms) ≡ packed (ands bs ms)
and_lists [] ms e f = and_zero_l (packed ms)
and_lists (b ∷ bs) [] e f = and_zero_r (packed (b ∷ bs))
and_lists (b ∷ bs) (m ∷ ms) e f = and_block 8 (packed bs) (packed ms) b m e.0 f.0 ∙ rw (and_lists bs ms e.1 f.1)

abbrev pub ors : List ℕ → List ℕ → List ℕ
ors [] bs = bs
ors (a ∷ xs) [] = a ∷ xs
ors (a ∷ xs) (b ∷ bs) = bit_or a b ∷ ors xs bs

pub or_lists : (xs bs : List ℕ) → Each 256 xs → Each 256 bs → (bit_or (packed xs) (packed bs) ≡ packed (ors xs bs)) × Each 256 (ors xs bs)
or_lists [] bs e f = (or_zero_l (packed bs), f)
or_lists (a ∷ xs) [] e f = (or_zero_r (packed (a ∷ xs)), e)
or_lists (a ∷ xs) (b ∷ bs) e f =
    let rest = or_lists xs bs e.1 f.1 in
    (or_block 8 (packed xs) (packed bs) a b e.0 f.0 ∙ rw rest.0, (or_lt 8 a b e.0 f.0, rest.1))

-- of each byte of two numbers joined the bits of a mask
pub picked : (xs bs ms : List ℕ) → Each 256 xs → Each 256 bs → Each 256 ms → bit_and (bit_or (packed xs) (packed bs)) (packed ms) ≡ packed (ands (ors xs bs) ms)
picked xs bs ms e f g = let o = or_lists xs bs e f in rw o.0 (and_lists (ors xs bs) ms o.1 g)

pub all_255 : (x : ℕ) → x < 256 → bit_and x 255 ≡ x
all_255 x h = let m : bit_and x 255 ≡ x % 256 = and_mask x 8 in omega arith

module _ (n0 n1 n2 n3 n4 n5 n6 n7 d : ℕ) (e : Each 16 (n0 ∷ n1 ∷ n2 ∷ n3 ∷ n4 ∷ n5 ∷ n6 ∷ n7 ∷ [])) (q : d ≡ packed (n0 ∷ n1 ∷ n2 ∷ n3 ∷ n4 ∷ n5 ∷ n6 ∷ n7 ∷ [])) where
  pub two_joined : bit_and (d * 0x10 + d / 0x100) 0x00FF_00FF_00FF_00FF
      ≡ packed ((n0 * 16 + n1) ∷ 0 ∷ (n2 * 16 + n3) ∷ 0 ∷ (n4 * 16 + n5) ∷ 0 ∷ (n6 * 16 + n7) ∷ 0 ∷ [])
  two_joined =
      let sum : d * 0x10 + d / 0x100 ≡ packed ((n0 * 16 + n1) ∷ (n1 * 16 + n2) ∷ (n2 * 16 + n3) ∷ (n3 * 16 + n4) ∷ (n4 * 16 + n5) ∷ (n5 * 16 + n6) ∷ (n6 * 16 + n7) ∷ (n7 * 16) ∷ []) = omega arith in
      rw sum
      (and_lists ((n0 * 16 + n1) ∷ (n1 * 16 + n2) ∷ (n2 * 16 + n3) ∷ (n3 * 16 + n4) ∷ (n4 * 16 + n5) ∷ (n5 * 16 + n6) ∷ (n6 * 16 + n7) ∷ (n7 * 16) ∷ []) (255 ∷ 0 ∷ 255 ∷ 0 ∷ 255 ∷ 0 ∷ 255 ∷ 0 ∷ [])
      (omega arith, (omega arith, (omega arith, (omega arith, (omega arith, (omega arith, (omega arith, (omega arith, tt))))))))
      (omega arith, (omega arith, (omega arith, (omega arith, (omega arith, (omega arith, (omega arith, (omega arith, tt))))))))
      ∙ rw (all_255 (n0 * 16 + n1) (omega arith), all_255 (n2 * 16 + n3) (omega arith), all_255 (n4 * 16 + n5) (omega arith), all_255 (n6 * 16 + n7) (omega arith), and_zero_r (n1 * 16 + n2), and_zero_r (n3 * 16 + n4), and_zero_r (n5 * 16 + n6), and_zero_r (n7 * 16)))

  pub four_joined : bit_and (bit_and (d * 0x10 + d / 0x100) 0x00FF_00FF_00FF_00FF * 0x100 + bit_and (d * 0x10 + d / 0x100) 0x00FF_00FF_00FF_00FF / 0x1_0000) 0x0000_FFFF_0000_FFFF
      ≡ packed ((n2 * 16 + n3) ∷ (n0 * 16 + n1) ∷ 0 ∷ 0 ∷ (n6 * 16 + n7) ∷ (n4 * 16 + n5) ∷ 0 ∷ 0 ∷ [])
  four_joined =
      let two = two_joined in
      let sum : bit_and (d * 0x10 + d / 0x100) 0x00FF_00FF_00FF_00FF * 0x100 + bit_and (d * 0x10 + d / 0x100) 0x00FF_00FF_00FF_00FF / 0x1_0000
      ≡ packed ((n2 * 16 + n3) ∷ (n0 * 16 + n1) ∷ (n4 * 16 + n5) ∷ (n2 * 16 + n3) ∷ (n6 * 16 + n7) ∷ (n4 * 16 + n5) ∷ 0 ∷ (n6 * 16 + n7) ∷ []) = rw two (omega arith) in
      rw sum
      (and_lists ((n2 * 16 + n3) ∷ (n0 * 16 + n1) ∷ (n4 * 16 + n5) ∷ (n2 * 16 + n3) ∷ (n6 * 16 + n7) ∷ (n4 * 16 + n5) ∷ 0 ∷ (n6 * 16 + n7) ∷ []) (255 ∷ 255 ∷ 0 ∷ 0 ∷ 255 ∷ 255 ∷ 0 ∷ 0 ∷ [])
      (omega arith, (omega arith, (omega arith, (omega arith, (omega arith, (omega arith, (omega arith, (omega arith, tt))))))))
      (omega arith, (omega arith, (omega arith, (omega arith, (omega arith, (omega arith, (omega arith, (omega arith, tt))))))))
      ∙ rw (all_255 (n2 * 16 + n3) (omega arith), all_255 (n0 * 16 + n1) (omega arith), all_255 (n6 * 16 + n7) (omega arith), all_255 (n4 * 16 + n5) (omega arith), and_zero_r (n4 * 16 + n5), and_zero_r (n2 * 16 + n3), and_zero_r (n6 * 16 + n7)))

halves : (hi lo : ℕ) → lo < 0x1_0000 → (hi * 0x1_0000_0000 + lo) % 0x1_0000_0000 * 0x1_0000 + (hi * 0x1_0000_0000 + lo) / 0x1_0000_0000 ≡ lo * 0x1_0000 + hi
halves hi lo h =
    let q : (hi * 0x1_0000_0000 + lo) / 0x1_0000_0000 ≡ hi = omega arith in
    let r : (hi * 0x1_0000_0000 + lo) % 0x1_0000_0000 ≡ lo = omega arith in
    rw (q, r)

whole : (p0 p2 p4 p6 : ℕ) → packed (p2 ∷ p0 ∷ 0 ∷ 0 ∷ p6 ∷ p4 ∷ 0 ∷ 0 ∷ []) ≡ (p4 * 256 + p6) * 0x1_0000_0000 + (p0 * 256 + p2)
whole p0 p2 p4 p6 = omega arith

pub last_joined : (p0 p2 p4 p6 : ℕ) → p0 < 256 → p2 < 256
    → packed (p2 ∷ p0 ∷ 0 ∷ 0 ∷ p6 ∷ p4 ∷ 0 ∷ 0 ∷ []) % 0x1_0000_0000 * 0x1_0000 + packed (p2 ∷ p0 ∷ 0 ∷ 0 ∷ p6 ∷ p4 ∷ 0 ∷ 0 ∷ []) / 0x1_0000_0000 ≡ (p0 * 256 + p2) * 0x1_0000 + (p4 * 256 + p6)
last_joined p0 p2 p4 p6 h k = rw (whole p0 p2 p4 p6) (halves (p4 * 256 + p6) (p0 * 256 + p2) (omega arith))

pub in_order : (n0 n1 n2 n3 n4 n5 n6 n7 : ℕ)
    → ((n0 * 16 + n1) * 256 + (n2 * 16 + n3)) * 0x1_0000 + ((n4 * 16 + n5) * 256 + (n6 * 16 + n7)) ≡ joined_from 0 (n0 ∷ n1 ∷ n2 ∷ n3 ∷ n4 ∷ n5 ∷ n6 ∷ n7 ∷ [])
in_order n0 n1 n2 n3 n4 n5 n6 n7 = omega arith

small : (a b : ℕ) → a < 16 → b < 16 → a * 16 + b < 256
small a b h k = omega arith

-- ---- eight of them, as a list

spelt : (bs : List ℕ) → length bs ≡ 8 → get_or bs 0 0 ∷ get_or bs 1 0 ∷ get_or bs 2 0 ∷ get_or bs 3 0 ∷ get_or bs 4 0 ∷ get_or bs 5 0 ∷ get_or bs 6 0 ∷ get_or bs 7 0 ∷ [] ≡ bs
spelt [] n = absurd (omega arith)
spelt (a ∷ []) n = absurd (omega arith)
spelt (a ∷ b ∷ []) n = absurd (omega arith)
spelt (a ∷ b ∷ c ∷ []) n = absurd (omega arith)
spelt (a ∷ b ∷ c ∷ d ∷ []) n = absurd (omega arith)
spelt (a ∷ b ∷ c ∷ d ∷ e ∷ []) n = absurd (omega arith)
spelt (a ∷ b ∷ c ∷ d ∷ e ∷ f ∷ []) n = absurd (omega arith)
spelt (a ∷ b ∷ c ∷ d ∷ e ∷ f ∷ g ∷ []) n = absurd (omega arith)
spelt (a ∷ b ∷ c ∷ d ∷ e ∷ f ∷ g ∷ h ∷ []) n = refl
spelt (a ∷ b ∷ c ∷ d ∷ e ∷ f ∷ g ∷ h ∷ i ∷ bs) n = absurd (omega arith)

pub packed_le : (ns : List ℕ) → length ns ≡ 8 → Each 16 ns → packed ns ≤ 0x0F0F_0F0F_0F0F_0F0F
packed_le ns n e = let each = subst (Each 16) (sym (spelt ns n)) e in omega (arith, ap packed (spelt ns n))

pub joined_is : (ns : List ℕ) (d : ℕ) → length ns ≡ 8 → Each 16 ns → d ≡ packed ns
    → let four = bit_and (bit_and (d * 0x10 + d / 0x100) 0x00FF_00FF_00FF_00FF * 0x100 + bit_and (d * 0x10 + d / 0x100) 0x00FF_00FF_00FF_00FF / 0x1_0000) 0x0000_FFFF_0000_FFFF in
    four % 0x1_0000_0000 * 0x1_0000 + four / 0x1_0000_0000 ≡ joined_from 0 ns
joined_is ns d n e q =
    let at = λ (i : ℕ). get_or ns i 0 in
    let each = subst (Each 16) (sym (spelt ns n)) e in
    rw (four_joined (at 0) (at 1) (at 2) (at 3) (at 4) (at 5) (at 6) (at 7) d each (q ∙ sym (ap packed (spelt ns n))))
    (last_joined (at 0 * 16 + at 1) (at 2 * 16 + at 3) (at 4 * 16 + at 5) (at 6 * 16 + at 7) (small (at 0) (at 1) each.0 each.1.0) (small (at 2) (at 3) each.1.1.0 each.1.1.1.0)
    ∙ in_order (at 0) (at 1) (at 2) (at 3) (at 4) (at 5) (at 6) (at 7) ∙ ap (joined_from 0) (spelt ns n))

pub length_numbers : (bs : List ℕ) → length (numbers_in bs) ≡ length bs
length_numbers [] = refl
length_numbers (b ∷ bs) = ap suc (length_numbers bs)

-- ---- eight bytes as `from_le_bytes` has them

pub each_byte : (bs : List ℕ) → ((i : ℕ) → get_or bs i 0 < 256) → Each 256 bs
each_byte [] h = tt
each_byte (b ∷ bs) h = (h 0, each_byte bs (λ i. h (suc i)))

pub packed_eight : (bs : List ℕ) → length bs ≡ 8 → from_le_bytes w64 bs ≡ packed bs
packed_eight bs n = omega (arith, ap packed (spelt bs n))

pub ruleset eight_bytes = (each_byte, packed_eight)
