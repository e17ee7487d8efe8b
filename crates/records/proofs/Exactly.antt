-- What is taken for a record is the text of one.
use Prim.Native.Nat.{ℕ, zero, suc, ◌+◌, ◌-◌, ◌*◌, ◌/◌, ◌%◌, ◌<◌, ◌≤◌}
use mathlib.Core.Path.{◌≡◌, refl, sym, ap, ◌∙◌}
use mathlib.Core.Bool.{Bool, true, false, not, cond, ◌&&◌}
use mathlib.Core.List.{List, [], ◌∷◌, ◌++◌, append_assoc}
use native.Mathlib.Omega.{arith}
use lib.ListN.{length, get_or, take, drop, length-drop, take-append-drop}
use lib.Seq.{drop-cons, drop-drop, length-take-le}
use lib.Dec.{eqb, ltb}
use borrow.Author.Tests.{ltb-true, eqb-true}
use Rattle.hex_digits.specs.Hex.{digit_number, all_digits, digits, number_from}
use Rattle.machine.specs.Codes.{done, not_ahex_record, wrong_sum, outside_the_window}
use Rattle.laws.proofs.Below.{both}
use Rattle.hex_digits.proofs.Numbers.{digits_number}
use Rattle.eight.specs.Packed.{Each}
use Rattle.records.specs.Record.{Record, total, front, check, all_bytes, hexes, text_of}
use Rattle.records.specs.Load.{bytes_in, byte_in, bytes_at, count_in, offset_in, kind_in, content_in, total_in, rest_of, is_kind, is_record, address_in, all_inside, record_code}
use Rattle.records.specs.Promises.{ReadsRecords}
use Rattle.records.proofs.Bytes.{total_append}
use Rattle.records.proofs.Read.{bytes_one}

-- ---- digits, two to a byte

byte_digits : (a b : ℕ) → digit_number a < 16 → digit_number b < 16 → all_digits (a ∷ b ∷ []) ≡ true → digits 2 (digit_number a % 16 * 16 + digit_number b % 16) ≡ a ∷ b ∷ []
unfolding number_from
byte_digits a b h k e =
    let n : digit_number a % 16 * 16 + digit_number b % 16 ≡ (0 * 16 + digit_number a) * 16 + digit_number b = omega arith in
    rw n (digits_number (a ∷ b ∷ []) e)

two_digits : (a b : ℕ) → ltb (digit_number a) 16 ≡ true → ltb (digit_number b) 16 ≡ true → all_digits (a ∷ b ∷ []) ≡ true
unfolding all_digits
two_digits a b e f = rw (e, f)

hexes_back : (m : ℕ) (s : List ℕ) → length s ≡ 2 * m → all_digits s ≡ true → hexes (bytes_in s) ≡ s
unfolding hexes bytes_in all_digits
hexes_back m [] h e = refl
hexes_back m (a ∷ []) h e = absurd (omega arith)
hexes_back m (a ∷ b ∷ s) h e =
    let p = both (ltb (digit_number a) 16) (ltb (digit_number b) 16 && all_digits s) e in
    let q = both (ltb (digit_number b) 16) (all_digits s) p.1 in
    rw (byte_digits a b (ltb-true (digit_number a) 16 p.0) (ltb-true (digit_number b) 16 q.0) (two_digits a b p.0 q.0), hexes_back (m - 1) s (omega arith) q.1)

pub in_take : (m : ℕ) (l : List ℕ) → bytes_in (take (2 * m) l) ≡ take m (bytes_in l)
unfolding bytes_in
in_take zero l = refl
in_take (suc m) [] = let e : 2 * suc m ≡ suc (suc (2 * m)) = omega arith in rw e
in_take (suc m) (a ∷ []) = let e : 2 * suc m ≡ suc (suc (2 * m)) = omega arith in rw e
in_take (suc m) (a ∷ b ∷ l) = let e : 2 * suc m ≡ suc (suc (2 * m)) = omega arith in rw (e, in_take m l)

pub in_length : (m : ℕ) (l : List ℕ) → 2 * m ≤ length l → m ≤ length (bytes_in l)
unfolding bytes_in
in_length zero l h = omega arith
in_length (suc m) [] h = absurd (omega arith)
in_length (suc m) (a ∷ []) h = absurd (omega arith)
in_length (suc m) (a ∷ b ∷ l) h = let k = in_length m l (omega arith) in omega arith

pub in_below : (l : List ℕ) → Each 256 (bytes_in l)
unfolding bytes_in
in_below [] = tt
in_below (a ∷ []) = tt
in_below (a ∷ b ∷ l) = (omega arith, in_below l)

at_below : (xs : List ℕ) (k : ℕ) → Each 256 xs → get_or xs k 0 < 256
at_below [] k h = omega arith
at_below (x ∷ xs) zero h = h.0
at_below (x ∷ xs) (suc k) h = at_below xs k h.1

pub byte_low : (t : List ℕ) (k : ℕ) → byte_in t k < 256
unfolding byte_in
byte_low t k = at_below (bytes_in (drop 1 t)) k (in_below (drop 1 t))

-- ---- bytes one by one

pub length_at : (t : List ℕ) (k n : ℕ) → length (bytes_at t k n) ≡ n
unfolding bytes_at
length_at t k zero = refl
length_at t k (suc n) = ap suc (length_at t (suc k) n)

at_snoc : (t : List ℕ) (k n : ℕ) → bytes_at t k (suc n) ≡ bytes_at t k n ++ (byte_in t (k + n) ∷ [])
unfolding bytes_at
at_snoc t k zero = let e : k + 0 ≡ k = omega arith in rw e
at_snoc t k (suc n) = let e : k + suc n ≡ suc k + n = omega arith in rw e (ap (λ (l : List ℕ). byte_in t k ∷ l) (at_snoc t (suc k) n))

last_is : (s x : ℕ) → x < 256 → (s + total (x ∷ [])) % 256 ≡ 0 → (256 - s % 256) % 256 ≡ x
unfolding total
last_is s x h e = omega arith

module _ (t : List ℕ) where
  abbrev read : Record
  read = record { kind = kind_in t; offset = offset_in t; content = content_in t }

  front-is : front read ≡ bytes_at t 0 (suc (suc (suc (suc (count_in t)))))
  unfolding front content_in bytes_at
  front-is =
      let high : offset_in t / 256 ≡ byte_in t 1 = omega (arith, byte_low t 2) in
      let low : offset_in t % 256 ≡ byte_in t 2 = omega (arith, byte_low t 2) in
      rw (length_at t 4 (count_in t), high, low)

  all-is : total_in t % 256 ≡ 0 → all_bytes read ≡ bytes_at t 0 (count_in t + 5)
  unfolding all_bytes check total_in
  all-is zero-sum =
      let n = count_in t in
      let five : n + 5 ≡ suc (suc (suc (suc (suc n)))) = omega arith in
      let x = byte_in t (0 + suc (suc (suc (suc n)))) in
      let snoc = at_snoc t 0 (suc (suc (suc (suc n)))) in
      let sum = rw (five, snoc, total_append (bytes_at t 0 (suc (suc (suc (suc n))))) (x ∷ [])) at zero-sum in
      rw (front-is, five, snoc) (ap (λ (y : ℕ). bytes_at t 0 (suc (suc (suc (suc n)))) ++ (y ∷ [])) (last_is (total (bytes_at t 0 (suc (suc (suc (suc n)))))) x (byte_low t _) sum))

  -- the record's digits are its bytes, written
  hexes_are : 2 * count_in t + 10 ≤ length (drop 1 t) → all_digits (take (2 * count_in t + 10) (drop 1 t)) ≡ true → total_in t % 256 ≡ 0
      → hexes (all_bytes read) ≡ take (2 * count_in t + 10) (drop 1 t)
  unfolding byte_in
  hexes_are fits all zero-sum =
      let n = count_in t in
      let twice : 2 * n + 10 ≡ 2 * (n + 5) = omega arith in
      let bytes = all-is zero-sum ∙ bytes_one t (bytes_in (drop 1 t)) (λ k. refl) (n + 5) 0 (omega (arith, in_length (n + 5) (drop 1 t) (omega arith))) ∙ sym (in_take (n + 5) (drop 1 t)) in
      rw (bytes, twice) (hexes_back (n + 5) (take (2 * (n + 5)) (drop 1 t)) (length-take-le (2 * (n + 5)) (drop 1 t) (omega arith)) (rw twice at all))

  -- a text of a colon, digits and LF
  whole : 2 * count_in t + 10 + 1 < length t → get_or t 0 0 ≡ 58 → get_or t (2 * count_in t + 10 + 1) 0 ≡ 10 → t ≡ 58 ∷ take (2 * count_in t + 10) (drop 1 t) ++ (10 ∷ rest_of t)
  whole h e f =
      let m = 2 * count_in t + 10 in
      let one : 1 + m ≡ m + 1 = omega arith in
      let two : m + 2 ≡ suc (m + 1) = omega arith in
      let after : drop m (drop 1 t) ≡ 10 ∷ rest_of t = drop-drop m 1 t ∙ rw (one, two, drop-cons t (m + 1) 0 h, f) in
      drop-cons t 0 0 (omega arith) ∙ rw e (ap (λ (l : List ℕ). 58 ∷ l) (sym (take-append-drop m (drop 1 t)) ∙ rw after))

-- a record with a right sum
right : (t : List ℕ) → is_record t ≡ true → total_in t % 256 ≡ 0 → t ≡ text_of (read t) ++ rest_of t
unfolding is_record text_of
right t is zero-sum =
    let m = 2 * count_in t + 10 in
    let p = both (ltb (m + 1) (length t) && eqb (get_or t 0 0) 58) _ is in
    let q = both (ltb (m + 1) (length t)) (eqb (get_or t 0 0) 58) p.0 in
    let r = both (all_digits (take m (drop 1 t)) && eqb (get_or t (m + 1) 0) 10) (is_kind (kind_in t) (count_in t) (offset_in t)) p.1 in
    let d = both (all_digits (take m (drop 1 t))) (eqb (get_or t (m + 1) 0) 10) r.0 in
    let long : m + 1 < length t = ltb-true (m + 1) (length t) q.0 in
    let digits = hexes_are t (rw length-drop (omega arith)) d.0 zero-sum in
    whole t long (eqb-true (get_or t 0 0) 58 q.1) (eqb-true (get_or t (m + 1) 0) 10 d.1)
    ∙ rw digits (sym (ap (λ (l : List ℕ). 58 ∷ l) (append_assoc (take m (drop 1 t)) (10 ∷ []) (rest_of t))))

no_code : (r z o : Bool) → cond (not r) not_ahex_record (cond (not z) wrong_sum (cond o outside_the_window done)) ≡ done → (r ≡ true) × (z ≡ true)
no_code true true o e = (refl, refl)
no_code true false o e = absurd (omega arith)
no_code false z o e = absurd (omega arith)

pub reads_records : ReadsRecords
unfolding record_code
reads_records start words upper t e =
    let p = no_code (is_record t) (eqb (total_in t % 256) 0) (eqb (kind_in t) 0 && not (all_inside start words (address_in upper t) (count_in t))) e in
    right t p.0 (eqb-true (total_in t % 256) 0 p.1)
