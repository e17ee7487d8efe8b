-- Laws of a window's words as bytes, and of bytes as digits.
--     bytes_part               the bytes of a part of the words
--     total_more, hexes_more   one word more
--     total_four, hexes_four   four words
--     four_sum                 the sum of their bytes, by a mask of every other one
--     four_digits, last_two, last_four     bytes as the digits of one number
--     parts, data_text         the parts of a record's text
use Prim.Native.Nat.{ℕ, zero, suc, ◌+◌, ◌-◌, ◌*◌, ◌/◌, ◌%◌, ◌^◌, ◌<◌}
use mathlib.Core.Path.{◌≡◌, refl, sym, ap, ◌∙◌}
use mathlib.Core.List.{List, [], ◌∷◌, ◌++◌, append_assoc, append-nil}
use native.Mathlib.Nat.{div-div-eq-div-mul}
use native.Mathlib.Numerals.{add-one}
use native.Mathlib.Omega.{arith}
use lib.ListN.{length, get_or, take, drop}
use lib.Dec.{lit<}
use lib.Bits.{bit_and, and_block, and_mask}
use lib.Seq.{take-suc}
use Rattle.std.proofs.lemmas.List.{take_all}
use Rattle.hex_digits.specs.Hex.{digit_of, digits}
use Rattle.records.specs.Window.{window_bytes}
use Rattle.records.specs.Record.{Record, total, front, check, all_bytes, hexes, text_of}
use Rattle.records.specs.Export.{data_record, cut}
use Rattle.records.proofs.Bytes.{total_append}

-- ---- words

take_bytes : (n : ℕ) (ws : List ℕ) → take (4 * n) (window_bytes ws) ≡ window_bytes (take n ws)
unfolding window_bytes
take_bytes zero ws = refl
take_bytes (suc n) [] = let e : 4 * suc n ≡ suc (suc (suc (suc (4 * n)))) = omega arith in rw e
take_bytes (suc n) (w ∷ ws) = let e : 4 * suc n ≡ suc (suc (suc (suc (4 * n)))) = omega arith in rw (e, take_bytes n ws)

drop_bytes : (n : ℕ) (ws : List ℕ) → drop (4 * n) (window_bytes ws) ≡ window_bytes (drop n ws)
unfolding window_bytes
drop_bytes zero ws = refl
drop_bytes (suc n) [] = let e : 4 * suc n ≡ suc (suc (suc (suc (4 * n)))) = omega arith in rw e
drop_bytes (suc n) (w ∷ ws) = let e : 4 * suc n ≡ suc (suc (suc (suc (4 * n)))) = omega arith in rw (e, drop_bytes n ws)

pub bytes_part : (i n : ℕ) (ws : List ℕ) → take (4 * n) (drop (4 * i) (window_bytes ws)) ≡ window_bytes (take n (drop i ws))
bytes_part i n ws = rw (drop_bytes i ws) (take_bytes n (drop i ws))

bytes_append : (xs ys : List ℕ) → window_bytes (xs ++ ys) ≡ window_bytes xs ++ window_bytes ys
unfolding window_bytes
bytes_append [] ys = refl
bytes_append (x ∷ xs) ys = rw (bytes_append xs ys)

pub hexes_append : (xs ys : List ℕ) → hexes (xs ++ ys) ≡ hexes xs ++ hexes ys
unfolding hexes
hexes_append [] ys = refl
hexes_append (x ∷ xs) ys = rw (hexes_append xs ys, append_assoc)

-- one word more
module _ (ws : List ℕ) (k : ℕ) (more : k < length ws) where
  abbrev done : List ℕ
  done = window_bytes (take k ws)

  abbrev next : List ℕ
  next = window_bytes (get_or ws k 0 ∷ [])

  bytes_more : window_bytes (take (k + 1) ws) ≡ done ++ next
  bytes_more = rw (add-one, take-suc ws k 0 more) (bytes_append (take k ws) (get_or ws k 0 ∷ []))

  pub total_more : total (window_bytes (take (k + 1) ws)) ≡ total done + total next
  total_more = rw bytes_more (total_append done next)

  pub hexes_more : hexes done ++ hexes next ≡ hexes (window_bytes (take (k + 1) ws))
  hexes_more = rw bytes_more (sym (hexes_append done next))

-- four words
module _ (ws : List ℕ) (four : length ws ≡ 4) where
  abbrev word : ℕ → List ℕ
  word k = window_bytes (get_or ws k 0 ∷ [])

  abbrev pub all_four : List ℕ
  all_four = get_or ws 0 0 ∷ get_or ws 1 0 ∷ get_or ws 2 0 ∷ get_or ws 3 0 ∷ []

  four_words : window_bytes ws ≡ word 0 ++ word 1 ++ word 2 ++ word 3
  unfolding window_bytes
  four_words =
      let e4 : take 4 ws ≡ ws = take_all 4 ws (omega (arith, four)) in
      let e3 : window_bytes (take 4 ws) ≡ window_bytes (take 3 ws) ++ word 3 = bytes_more ws 3 (omega (arith, four)) in
      let e2 : window_bytes (take 3 ws) ≡ window_bytes (take 2 ws) ++ word 2 = bytes_more ws 2 (omega (arith, four)) in
      let e1 : window_bytes (take 2 ws) ≡ window_bytes (take 1 ws) ++ word 1 = bytes_more ws 1 (omega (arith, four)) in
      let e0 : window_bytes (take 1 ws) ≡ word 0 = bytes_more ws 0 (omega (arith, four)) in
      rw (e2, e1, e0, e4) at e3

  pub total_four : total (window_bytes ws) ≡ total (window_bytes all_four)
  unfolding window_bytes
  total_four = rw four_words refl

  pub hexes_four : hexes (word 0) ++ hexes (word 1) ++ hexes (word 2) ++ hexes (word 3) ≡ hexes (window_bytes ws)
  hexes_four = rw (four_words, hexes_append, hexes_append, hexes_append)

-- words' sum and that of every other byte of them, by the sums of their bytes
record Sums (all even s0 s1 s2 s3 : ℕ) : Type 0 where
  of_all : all ≡ s0 + 256 * s1 + 65536 * s2 + 16777216 * s3
  of_even : even ≡ s0 + 65536 * s2

word_sums : (w : ℕ) → w < 2 ^ 32 → Sums w (bit_and w 0x00FF_00FF) (w % 256) (w / 256 % 256) (w / 65536 % 256) (w / 16777216 % 256)
word_sums w h =
    let e : w ≡ w / 65536 * 2 ^ 16 + w % 65536 = omega arith in
    let low : w % 65536 % 256 + w / 65536 % 256 * 65536 ≡ w % 256 + 65536 * (w / 65536 % 256) = omega arith in
    let taken : bit_and w 0x00FF_00FF ≡ w % 256 + 65536 * (w / 65536 % 256) = ap (λ (x : ℕ). bit_and x 0x00FF_00FF) e ∙ and_block 16 (w / 65536) 255 (w % 65536) 255 (omega arith) (lit< tt) ∙ rw (and_mask (w / 65536) 8, and_mask (w % 65536) 8) (omega (arith, low)) in
    record { of_all = omega (arith, h); of_even = taken }

add_sums : {v e s0 s1 s2 s3 w f t0 t1 t2 t3 : ℕ} → Sums v e s0 s1 s2 s3 → Sums w f t0 t1 t2 t3 → Sums (v + w) (e + f) (s0 + t0) (s1 + t1) (s2 + t2) (s3 + t3)
add_sums p q = record { of_all = omega (arith, p.of_all, q.of_all); of_even = omega (arith, p.of_even, q.of_even) }

fold_sums : (all even s0 s1 s2 s3 : ℕ) → s0 + s1 < 65536 → Sums all even s0 s1 s2 s3
    → (even + (all - even) / 256 + (even + (all - even) / 256) / 65536) % 256 ≡ (s0 + s1 + s2 + s3) % 256
fold_sums all even s0 s1 s2 s3 low p =
    let odd : (all - even) / 256 ≡ s1 + 65536 * s3 = omega (arith, p.of_all, p.of_even) in
    let sums : even + (all - even) / 256 ≡ s0 + s1 + 65536 * (s2 + s3) = omega (arith, p.of_even, odd) in
    let high : (even + (all - even) / 256) / 65536 ≡ s2 + s3 = omega (arith, low, sums) in
    omega (arith, sums, high)

pub four_sum : (a b c d : ℕ) → a < 2 ^ 32 → b < 2 ^ 32 → c < 2 ^ 32 → d < 2 ^ 32
    → let all = a + b + c + d in
    let even = bit_and a 0x00FF_00FF + bit_and b 0x00FF_00FF + bit_and c 0x00FF_00FF + bit_and d 0x00FF_00FF in
    (even + (all - even) / 256 + (even + (all - even) / 256) / 65536) % 256 ≡ total (window_bytes (a ∷ b ∷ c ∷ d ∷ [])) % 256
unfolding window_bytes total
four_sum a b c d h k l m =
    fold_sums _ _ _ _ _ _ (omega arith) (add_sums (add_sums (add_sums (word_sums a h) (word_sums b k)) (word_sums c l)) (word_sums d m))
    ∙ ap (λ (x : ℕ). x % 256) (omega arith)

-- ---- digits

-- a byte's digits, where it stands in a number
at_digits : (x b : ℕ) → x % 256 ≡ b % 256 → digits 2 x ≡ digits 2 b
unfolding digits
at_digits x b e =
    let high : x / 16 % 16 ≡ b / 16 % 16 = omega arith in
    let low : x % 16 ≡ b % 16 = omega arith in
    λ i. digit_of (high i) ∷ digit_of (low i) ∷ []

eight_parts : (x : ℕ) → digits 8 x ≡ digits 2 (x / 16777216) ++ (digits 2 (x / 65536) ++ (digits 2 (x / 256) ++ digits 2 x))
unfolding digits
eight_parts x = simp (div-div-eq-div-mul)

module _ (a b c d : ℕ) (h : b < 256) (k : c < 256) (l : d < 256) where
  abbrev joined : ℕ
  joined = a * 16777216 + b * 65536 + c * 256 + d

  pub four_digits : digits 8 joined ≡ hexes (a ∷ b ∷ c ∷ d ∷ [])
  unfolding hexes
  four_digits =
      let first : joined / 16777216 ≡ a = omega arith in
      let second : joined / 65536 ≡ a * 256 + b = omega arith in
      let third : joined / 256 ≡ a * 65536 + b * 256 + c = omega arith in
      eight_parts joined
      ∙ rw (first, second, third, at_digits (a * 256 + b) b (omega arith), at_digits (a * 65536 + b * 256 + c) c (omega arith), at_digits joined d (omega arith), append-nil)

-- the last two of a byte's eight digits, and the last four of two bytes'
pub last_two : (ds : List ℕ) (n : ℕ) → ds ≡ digits 8 n → get_or ds 6 0 ∷ get_or ds 7 0 ∷ 10 ∷ [] ≡ hexes (n ∷ []) ++ (10 ∷ [])
unfolding digits hexes
last_two ds n e = rw e

pub last_four : (ds : List ℕ) (n : ℕ) → ds ≡ digits 8 n → drop 4 ds ≡ hexes (n / 256 ∷ n % 256 ∷ [])
unfolding digits hexes
last_four ds n e =
    let high : n / 16 % 16 ≡ n % 256 / 16 % 16 = omega arith in
    let low : n % 16 ≡ n % 256 % 16 = omega arith in
    let above : n / 16 / 16 ≡ n / 256 = omega arith in
    rw (e, above, high, low)

-- ---- records

-- a record's text is its head, its content and its tail
pub parts : (r : Record) (sum : ℕ) → sum ≡ total (front r) % 256
    → (58 ∷ hexes (length r.content ∷ r.offset / 256 ∷ r.offset % 256 ∷ r.kind ∷ [])) ++ hexes r.content ++ (hexes ((256 - sum) % 256 ∷ []) ++ (10 ∷ [])) ≡ text_of r
unfolding text_of all_bytes front check
parts r sum e =
    let head = length r.content ∷ r.offset / 256 ∷ r.offset % 256 ∷ r.kind ∷ [] in
    let last = (256 - sum) % 256 ∷ [] in
    ap (λ (l : List ℕ). 58 ∷ l)
    (sym (append_assoc (hexes head ++ hexes r.content) (hexes last) (10 ∷ [])) ∙ rw (← hexes_append head r.content, ← hexes_append (head ++ r.content) last, e))

pub front_total : (r : Record) → total (front r) ≡ length r.content + (r.offset / 256 + (r.offset % 256 + (r.kind + total r.content)))
unfolding front total
front_total r = refl

pub data_text : (offset n : ℕ) (xs : List ℕ) (sum : ℕ) → offset < 65536 → length xs ≡ n → sum ≡ (n + offset / 256 + offset % 256 + total xs) % 256
    → (58 ∷ hexes (n ∷ offset / 256 ∷ offset % 256 ∷ 0 ∷ [])) ++ hexes xs ++ (hexes ((256 - sum) % 256 ∷ []) ++ (10 ∷ [])) ≡ text_of (data_record offset xs)
data_text offset n xs sum low e f =
    let same : offset % 65536 ≡ offset = omega arith in
    rw same (rw (← e) (parts (record { kind = 0; offset = offset; content = xs }) sum (omega (arith, e, front_total (record { kind = 0; offset = offset; content = xs })))))

-- an address and what it is modulo 2^32 are cut and written alike
pub cut_same : (a left : ℕ) → cut (a % 4294967296) left ≡ cut a left
unfolding cut
cut_same a left = let e : a % 4294967296 % 65536 ≡ a % 65536 = omega arith in rw e
