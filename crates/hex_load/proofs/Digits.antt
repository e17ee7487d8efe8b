-- Laws of digits: what stands at a place of them, the bytes that they stand for, and the sum of those.
use Rattle.std.proofs.Common.{◌≡◌, refl, sym, ap, ◌∙◌, arith, Option, Some, None, pow-suc}
use Rattle.std.proofs.lemmas.List.{take_all, take-append-drop}
use Rattle.std.specs.Int.{byte_at, bytes_high_first}
use Prim.Native.Nat.{ℕ, zero, suc, ◌+◌, ◌-◌, ◌*◌, ◌/◌, ◌%◌, ◌^◌, ◌<◌, ◌≤◌}
use mathlib.Core.Bool.{Bool, true, false, true≢false, ◌&&◌}
use mathlib.Core.List.{List, [], ◌∷◌, ◌++◌}
use native.Mathlib.Nat.{div-one, div-div-eq-div-mul}
use lib.ListN.{length, take, drop, length-drop}
use lib.Seq.{take-add, drop-drop, length-take-le}
use lib.Dec.{ltb}
use borrow.Author.Tests.{ltb-true}
use Rattle.laws.proofs.Below.{both}
use Rattle.hex_digits.specs.Hex.{digit_number, all_digits, number_from, number}
use Rattle.hex_digits.proofs.Numbers.{all_append, number_lt}
use Rattle.eight.specs.Packed.{number_if_digits}
use Rattle.records.specs.Record.{total}
use Rattle.records.specs.Window.{window_bytes}
use Rattle.records.specs.Load.{bytes_in}
use Rattle.records.proofs.Bytes.{total_append}
use Rattle.hex_load.specs.Reads.{sum_of}

-- ---- digits at a place

pub there : (n i : ℕ) (s : List ℕ) → i + n ≤ length s → length (take n (drop i s)) ≡ n
there n i s h = length-take-le n (drop i s) (rw length-drop (omega arith))

pub split : (n : ℕ) (s : List ℕ) → all_digits s ≡ (all_digits (take n s) && all_digits (drop n s))
split n s = sym (ap all_digits (take-append-drop n s)) ∙ all_append (take n s) (drop n s)

-- of digits each part is digits
pub all_part : (n i : ℕ) (s : List ℕ) → all_digits s ≡ true → all_digits (take n (drop i s)) ≡ true
all_part n i s e =
    let past = (both (all_digits (take i s)) (all_digits (drop i s)) (sym (split i s) ∙ e)).1 in
    (both (all_digits (take n (drop i s))) (all_digits (drop n (drop i s))) (sym (split n (drop i s)) ∙ past)).0

pub part_not : (n i : ℕ) (s : List ℕ) → all_digits (take n (drop i s)) ≡ false → all_digits s ≡ false
part_not n i s e = by (all_digits s) refl
  where
    by : (t : Bool) → all_digits s ≡ t → all_digits s ≡ false
    by false f = f
    by true f = absurd (true≢false (sym (all_part n i s f) ∙ e))

-- ---- the bytes that digits stand for

pub in_append : (m : ℕ) (xs ys : List ℕ) → length xs ≡ 2 * m → bytes_in (xs ++ ys) ≡ bytes_in xs ++ bytes_in ys
unfolding bytes_in
in_append m [] ys h = refl
in_append m (a ∷ []) ys h = absurd (omega arith)
in_append m (a ∷ b ∷ xs) ys h = rw (in_append (m - 1) xs ys (omega arith))

pub in_long : (m : ℕ) (s : List ℕ) → length s ≡ 2 * m → length (bytes_in s) ≡ m
unfolding bytes_in
in_long m [] h = omega arith
in_long m (a ∷ []) h = absurd (omega arith)
in_long m (a ∷ b ∷ s) h = let k = in_long (m - 1) s (omega arith) in omega arith

-- ---- the number of digits, and its lowest bytes

two_small : (a b : ℕ) (s : List ℕ) → all_digits (a ∷ b ∷ s) ≡ true → (digit_number a < 16) × (digit_number b < 16) × (all_digits s ≡ true)
unfolding all_digits
two_small a b s e =
    let p = both (ltb (digit_number a) 16) _ e in
    let q = both (ltb (digit_number b) 16) _ p.1 in
    (ltb-true (digit_number a) 16 p.0, ltb-true (digit_number b) 16 q.0, q.1)

past_digits : (m n : ℕ) (s : List ℕ) → length s ≡ 2 * m → all_digits s ≡ true → number_from n s / 256 ^ m ≡ n
unfolding number_from
past_digits zero n [] h e = div-one n
past_digits (suc m) n [] h e = absurd (omega arith)
past_digits m n (a ∷ []) h e = absurd (omega arith)
past_digits zero n (a ∷ b ∷ s) h e = absurd (omega arith)
past_digits (suc m) n (a ∷ b ∷ s) h e =
    let d = two_small a b s e in
    let w = (n * 16 + digit_number a) * 16 + digit_number b in
    let one : w / 256 ≡ n = omega (arith, d.0, d.1) in
    down (number_from w s) m ∙ rw (past_digits m w s (omega arith) d.2) one
  where
    down : (x k : ℕ) → x / 256 ^ suc k ≡ x / 256 ^ k / 256
    down x k = rw pow-suc (sym (div-div-eq-div-mul x (256 ^ k) 256))

low_read : (m n : ℕ) (s : List ℕ) → length s ≡ 2 * m → all_digits s ≡ true → bytes_high_first m (number_from n s) ≡ bytes_in s
unfolding number_from bytes_in
low_read zero n [] h e = refl
low_read (suc m) n [] h e = absurd (omega arith)
low_read m n (a ∷ []) h e = absurd (omega arith)
low_read zero n (a ∷ b ∷ s) h e = absurd (omega arith)
low_read (suc m) n (a ∷ b ∷ s) h e =
    let d = two_small a b s e in
    let w = (n * 16 + digit_number a) * 16 + digit_number b in
    let byte : w % 256 ≡ digit_number a % 16 * 16 + digit_number b % 16 = omega (arith, d.0, d.1) in
    rw (byte_is m (number_from w s), past_digits m w s (omega arith) d.2, byte, low_read m w s (omega arith) d.2)
  where
    byte_is : (m x : ℕ) → byte_at m x ≡ x / 256 ^ m % 256
    byte_is zero x = rw (div-one x)
    byte_is (suc m) x = refl

number_append : (n : ℕ) (xs ys : List ℕ) → number_from n (xs ++ ys) ≡ number_from (number_from n xs) ys
unfolding number_from
number_append n [] ys = refl
number_append n (x ∷ xs) ys = number_append (n * 16 + digit_number x) xs ys

-- of eight digits the last 2 m, which end at a place
module _ (s : List ℕ) (to m : ℕ) (few : m ≤ 4) (far : 8 ≤ to) (fits : to ≤ length s) (all : all_digits (take 8 (drop (to - 8) s)) ≡ true) where
  abbrev ahead : List ℕ
  ahead = take (8 - 2 * m) (drop (to - 8) s)

  abbrev last : List ℕ
  last = take (2 * m) (drop (to - 2 * m) s)

  in_two : take 8 (drop (to - 8) s) ≡ ahead ++ last
  in_two =
      let e : 8 ≡ 8 - 2 * m + 2 * m = omega arith in
      let f : to - 8 + (8 - 2 * m) ≡ to - 2 * m = omega arith in
      ap (λ (n : ℕ). take n (drop (to - 8) s)) e ∙ take-add (8 - 2 * m) (2 * m) (drop (to - 8) s) ∙ rw (drop-drop (8 - 2 * m) (to - 8) s, f)

  pub last_digits : all_digits last ≡ true
  last_digits = (both (all_digits ahead) (all_digits last) (sym (all_append ahead last) ∙ ap all_digits (sym in_two) ∙ all)).1

  pub last_read : bytes_high_first m (number (take 8 (drop (to - 8) s))) ≡ bytes_in last
  last_read = rw (in_two, number_append 0 ahead last) (low_read m (number_from 0 ahead) last (there (2 * m) (to - 2 * m) s (omega arith)) last_digits)

-- ---- a number read, or none

module _ (s : List ℕ) where
  pub word_is : all_digits s ≡ true → number_if_digits s ≡ Some (number s)
  unfolding number_if_digits
  word_is e = rw e

  pub word_not : all_digits s ≡ false → number_if_digits s ≡ None
  unfolding number_if_digits
  word_not e = rw e

  pub sum_is : all_digits s ≡ true → sum_of s ≡ Some (total (bytes_in s) % 256)
  unfolding sum_of
  sum_is e = rw e

  pub sum_not : all_digits s ≡ false → sum_of s ≡ None
  unfolding sum_of
  sum_not e = rw e

  either : {P : Type 0} → (all_digits s ≡ true → P) → (all_digits s ≡ false → P) → P
  either {P} f g = by (all_digits s) refl
    where
      by : (t : Bool) → all_digits s ≡ t → P
      by true e = f e
      by false e = g e

  pub word_none : ◌≡◌ {A = Option ℕ} None (number_if_digits s) → all_digits s ≡ false
  word_none n = either (λ e. let f : ◌≡◌ {A = Option ℕ} None (Some (number s)) = n ∙ word_is e in cc) (λ e. e)

  pub word_some : (w : ℕ) → Some w ≡ number_if_digits s → (all_digits s ≡ true) × (w ≡ number s)
  word_some w n = either
      (λ e. let f : ◌≡◌ {A = Option ℕ} (Some w) (Some (number s)) = n ∙ word_is e in (e, cc))
      (λ e. let f : ◌≡◌ {A = Option ℕ} (Some w) None = n ∙ word_not e in cc)

  pub sum_none : ◌≡◌ {A = Option ℕ} None (sum_of s) → all_digits s ≡ false
  sum_none n = either (λ e. let f : ◌≡◌ {A = Option ℕ} None (Some (total (bytes_in s) % 256)) = n ∙ sum_is e in cc) (λ e. e)

  pub sum_some : (w : ℕ) → Some w ≡ sum_of s → (all_digits s ≡ true) × (w ≡ total (bytes_in s) % 256)
  sum_some w n = either
      (λ e. let f : ◌≡◌ {A = Option ℕ} (Some w) (Some (total (bytes_in s) % 256)) = n ∙ sum_is e in (e, cc))
      (λ e. let f : ◌≡◌ {A = Option ℕ} (Some w) None = n ∙ sum_not e in cc)

-- ---- sums

four_sum : (a b c d x : ℕ) → a < 256 → b < 256 → c < 256 → d < 256 → x ≡ a + 256 * b + 65536 * c + 16777216 * d → total (window_bytes (x ∷ [])) % 256 ≡ (d + (c + (b + (a + 0)))) % 256
unfolding total window_bytes
four_sum a b c d x h k l m is =
    let second : x / 256 ≡ b + 256 * c + 65536 * d = omega arith in
    let third : x / 65536 ≡ c + 256 * d = omega arith in
    let fourth : x / 16777216 ≡ d = omega arith in
    rw (second, third, fourth) (omega arith)

-- the sum is the same in either order
pub any_order : (w : ℕ) → total (window_bytes (w ∷ [])) % 256 ≡ total (bytes_high_first 4 w) % 256
unfolding total window_bytes
any_order w = omega arith

-- the lowest bytes of a number, shifted to the highest of four
pub low_sum : (m w : ℕ) → m ≤ 4 → w < 2 ^ 32 → total (window_bytes ((w * 2 ^ (8 * (4 - m)) % 4294967296) ∷ [])) % 256 ≡ total (bytes_high_first m w) % 256
unfolding total window_bytes
low_sum m w h low = by m h (w % 256) (w / 256 % 256) (w / 65536 % 256) (w / 16777216 % 256) (omega arith) (omega arith) (omega arith) (omega arith) refl refl refl refl
  where
    by : (m : ℕ) → m ≤ 4 → (a b c d : ℕ) → a < 256 → b < 256 → c < 256 → d < 256 → w % 256 ≡ a → w / 256 % 256 ≡ b → w / 65536 % 256 ≡ c → w / 16777216 % 256 ≡ d
        → total (window_bytes ((w * 2 ^ (8 * (4 - m)) % 4294967296) ∷ [])) % 256 ≡ total (bytes_high_first m w) % 256
    by zero h a b c d i j k l e f g q = four_sum 0 0 0 0 _ (omega arith) (omega arith) (omega arith) (omega arith) (omega arith)
    by (suc zero) h a b c d i j k l e f g q = four_sum 0 0 0 a _ (omega arith) (omega arith) (omega arith) i (omega arith) ∙ rw e
    by (suc (suc zero)) h a b c d i j k l e f g q = four_sum 0 0 a b _ (omega arith) (omega arith) i j (omega arith) ∙ rw (e, f)
    by (suc (suc (suc zero))) h a b c d i j k l e f g q = four_sum 0 a b c _ (omega arith) i j k (omega arith) ∙ rw (e, f, g)
    by (suc (suc (suc (suc zero)))) h a b c d i j k l e f g q = four_sum a b c d _ i j k l (omega arith) ∙ rw (e, f, g, q)
    by (suc (suc (suc (suc (suc m))))) h a b c d i j k l e f g q = absurd (omega arith)

-- digits behind digits
pub sum_more : (m s : ℕ) (xs ys : List ℕ) → length xs ≡ 2 * m → Some s ≡ sum_of xs → all_digits ys ≡ true → Some ((s + total (bytes_in ys) % 256) % 256) ≡ sum_of (xs ++ ys)
sum_more m s xs ys even first all =
    let f = sum_some xs s first in
    sym (sum_is (xs ++ ys) (all_append xs ys ∙ rw (f.0, all)) ∙ rw (in_append m xs ys even, total_append (bytes_in xs) (bytes_in ys)) (ap (λ (n : ℕ). Some n) (omega (arith, f.1))))

-- ---- the digits behind the first eight

module _ (d : List ℕ) (first : all_digits (take 8 d) ≡ true) where
  -- of any eight that are no digits one stands behind the first eight
  pub rest_not : (i : ℕ) → all_digits (take 8 (drop i d)) ≡ false → sum_of (drop 8 d) ≡ None
  rest_not i e = sum_not (drop 8 d) (sym (rw first at (split 8 d)) ∙ part_not 8 i d e)

-- eight digits more
pub piece : (d : List ℕ) (i s : ℕ) → 0 < i → 8 * i + 8 ≤ length d → Some s ≡ sum_of (take (8 * (i - 1)) (drop 8 d)) → all_digits (take 8 (drop (8 * i) d)) ≡ true
    → Some ((s + total (window_bytes (number (take 8 (drop (8 * i) d)) ∷ [])) % 256) % 256) ≡ sum_of (take (8 * (i + 1 - 1)) (drop 8 d))
piece d i s some fits first all =
    let xs = take (8 * (i - 1)) (drop 8 d) in
    let ys = take 8 (drop (8 * i) d) in
    let even : length xs ≡ 2 * (4 * (i - 1)) = there (8 * (i - 1)) 8 d (omega arith) ∙ omega arith in
    let more : 8 * (i + 1 - 1) ≡ 8 * (i - 1) + 8 = omega arith in
    let past : 8 + 8 * (i - 1) ≡ 8 * i = omega arith in
    let parts : take (8 * (i + 1 - 1)) (drop 8 d) ≡ xs ++ ys = rw (more, take-add (8 * (i - 1)) 8 (drop 8 d), drop-drop (8 * (i - 1)) 8 d, past) in
    let w = number ys in
    let turned : total (window_bytes (w ∷ [])) % 256 ≡ total (bytes_high_first 4 w) % 256 = any_order w in
    rw (parts, turned, low_read 4 0 ys (there 8 (8 * i) d fits) all) (sum_more (4 * (i - 1)) s xs ys even first all)

-- the digits that are left behind whole eights
pub last_piece : (d : List ℕ) (i s : ℕ) → 0 < i → i ≡ length d / 8 → length d % 2 ≡ 0 → 0 < length d % 8 → Some s ≡ sum_of (take (8 * (i - 1)) (drop 8 d)) → all_digits (take 8 (drop (length d - 8) d)) ≡ true
    → Some ((s + total (window_bytes ((number (take 8 (drop (length d - 8) d)) * 2 ^ (32 - 4 * (length d % 8)) % 4294967296) ∷ [])) % 256) % 256) ≡ sum_of (drop 8 d)
last_piece d i s some is even left first all =
    let m = length d % 8 / 2 in
    let xs = take (8 * (i - 1)) (drop 8 d) in
    let ys = take (2 * m) (drop (length d - 2 * m) d) in
    let w = number (take 8 (drop (length d - 8) d)) in
    let four : length xs ≡ 2 * (4 * (i - 1)) = there (8 * (i - 1)) 8 d (omega arith) ∙ omega arith in
    let past : 8 + 8 * (i - 1) ≡ length d - 2 * m = omega arith in
    let all_of : take (2 * m) (drop (length d - 2 * m) d) ≡ drop (length d - 2 * m) d = take_all (2 * m) (drop (length d - 2 * m) d) (rw length-drop (omega arith)) in
    let parts : drop 8 d ≡ xs ++ ys = sym (take-append-drop (8 * (i - 1)) (drop 8 d)) ∙ rw (drop-drop (8 * (i - 1)) 8 d, past, all_of) in
    let shift : 32 - 4 * (length d % 8) ≡ 8 * (4 - m) = omega arith in
    let few : m ≤ 4 = omega arith in
    let low : w < 2 ^ 32 = rw (there 8 (length d - 8) d (omega arith)) at (number_lt (take 8 (drop (length d - 8) d)) all) in
    rw (shift, low_sum m w few low, last_read d (length d) m few (omega arith) (omega arith) all, parts)
    (sum_more (4 * (i - 1)) s xs ys four first (last_digits d (length d) m few (omega arith) (omega arith) all))
