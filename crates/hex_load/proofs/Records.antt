-- The record that a text begins with, and the text behind it.
use Rattle.std.proofs.Common.{◌≡◌, refl, sym, ap, ◌∙◌, arith, Option, Some, None, take-take, slice_index_or}
use Rattle.std.proofs.lemmas.List.{drop-take}
use Rattle.std.specs.Int.{bytes_high_first}
use Prim.Native.Nat.{ℕ, zero, suc, ◌+◌, ◌*◌, ◌<◌, ◌≤◌, ◌-◌, ◌/◌, ◌%◌}
use mathlib.Core.Bool.{false, cond, Bool, true, true≢false, not, ◌&&◌}
use mathlib.Core.List.{List, [], ◌∷◌, ◌++◌}
use native.Mathlib.Decide.{ℕ_discrete}
use lib.ListN.{length, take, drop, length-drop, get_or}
use lib.Seq.{drop-drop}
use lib.Dec.{eqb, ltb}
use borrow.Author.Tests.{ne_eqb, eqb-true, eq-eqb, ltb-true, lt-ltb, le-ltb}
use Rattle.laws.proofs.Below.{both}
use Rattle.hex_digits.specs.Hex.{all_digits, number}
use Rattle.records.specs.Record.{total}
use Rattle.records.specs.Load.{bytes_in, byte_in, bytes_at, kind_in, rest_of, upper_after, record_code, code_from, refused_from, said_by, said_from, digits_in, total_in, count_in, offset_in, address_in, content_in, is_kind, is_record, all_inside}
use Rattle.records.proofs.Read.{bytes_one}
use Rattle.records.proofs.Exactly.{in_take, in_length, byte_low}
use Rattle.records.proofs.Steps.{less}
use Rattle.hex_load.specs.declared.Head.{Head}
use denote.Enum.Bare.{sameb}
use Rattle.std.specs.Option.{IsSome}
use Rattle.std.proofs.Common.{rules}
use Rattle.hex_load.specs.contracts.Kind.{the_type}
use Rattle.hex_load.specs.declared.Kind.{Kind}
use Rattle.hex_load.specs.declared.Kind.TheVariants.{Data, End, Upper}
use Rattle.hex_load.specs.Reads.{kind_number, sum_of, Reads, Begins, HeadRead}
use Rattle.hex_load.proofs.Digits.{all_part, part_not, last_read, split, sum_some, sum_none}

-- ---- bytes

in_drop : (k : ℕ) (l : List ℕ) → bytes_in (drop (2 * k) l) ≡ drop k (bytes_in l)
unfolding bytes_in
in_drop zero l = refl
in_drop (suc k) [] = let e : 2 * suc k ≡ suc (suc (2 * k)) = omega arith in rw e
in_drop (suc k) (a ∷ []) = let e : 2 * suc k ≡ suc (suc (2 * k)) = omega arith in rw e
in_drop (suc k) (a ∷ b ∷ l) = let e : 2 * suc k ≡ suc (suc (2 * k)) = omega arith in rw e (in_drop k l)

-- the bytes that digits of a record stand for
pub bytes_here : (t : List ℕ) (k n : ℕ) → 2 * (k + n) + 1 ≤ length t → bytes_in (take (2 * n) (drop (2 * k + 1) t)) ≡ bytes_at t k n
unfolding byte_in
bytes_here t k n h =
    let e : 2 * k + 1 ≡ 1 + 2 * k = omega arith in
    let few : k + n ≤ length (bytes_in (drop 1 t)) = in_length (k + n) (drop 1 t) (rw length-drop (omega arith)) in
    in_take n (drop (2 * k + 1) t) ∙ rw (e, ← drop-drop (2 * k) 1 t, in_drop k (drop 1 t)) (sym (bytes_one t (bytes_in (drop 1 t)) (λ i. refl) n k few))

-- ---- records

pub rest_less : (t : List ℕ) (g : ℕ) → 0 < length t → length t ≤ g → length (rest_of t) ≤ less g
rest_less t zero h k = absurd (omega arith)
rest_less t (suc g) h k = rw length-drop (omega arith)

pub length_none : (t : List ℕ) → length t ≡ 0 → t ≡ []
length_none [] e = refl
length_none (b ∷ t) e = absurd (omega (arith, e))

pub code_none : (g start words upper : ℕ) → code_from g start words upper [] ≡ 19
unfolding code_from
code_none zero start words upper = refl
code_none (suc g) start words upper = refl

pub place_none : (g start words upper : ℕ) → refused_from g start words upper [] ≡ 0
unfolding refused_from
place_none zero start words upper = refl
place_none (suc g) start words upper = refl

module _ (start words upper : ℕ) (t : List ℕ) (some : 0 < length t) where
  full : eqb (length t) 0 ≡ false
  full = ne_eqb (length t) 0 (λ e. omega (arith, e))

  pub code_refused : (g : ℕ) → length t ≤ g → (record_code start words upper t ≡ 0 → ⊥) → code_from g start words upper t ≡ record_code start words upper t
  unfolding code_from
  code_refused zero h e = absurd (omega arith)
  code_refused (suc g) h e = rw (full, ne_eqb (record_code start words upper t) 0 e)

  pub code_ended : (g : ℕ) → length t ≤ g → record_code start words upper t ≡ 0 → kind_in t ≡ 1 → code_from g start words upper t ≡ cond (eqb (length (rest_of t)) 0) 0 19
  unfolding code_from
  code_ended zero h e k = absurd (omega arith)
  code_ended (suc g) h e k = rw (full, e, k)

  pub code_more : (g : ℕ) → length t ≤ g → record_code start words upper t ≡ 0 → (kind_in t ≡ 1 → ⊥) → code_from g start words upper t ≡ code_from (less g) start words (upper_after upper t) (rest_of t)
  unfolding code_from
  code_more zero h e k = absurd (omega arith)
  code_more (suc g) h e k = rw (full, e, ne_eqb (kind_in t) 1 k)

  -- the place of what the code is told of
  pub place_refused : (g : ℕ) → length t ≤ g → (record_code start words upper t ≡ 0 → ⊥) → refused_from g start words upper t ≡ 0
  unfolding refused_from
  place_refused zero h e = absurd (omega arith)
  place_refused (suc g) h e = rw (full, ne_eqb (record_code start words upper t) 0 e)

  pub place_ended : (g : ℕ) → length t ≤ g → record_code start words upper t ≡ 0 → kind_in t ≡ 1 → refused_from g start words upper t ≡ digits_in t + 2 + 0
  unfolding refused_from
  place_ended zero h e k = absurd (omega arith)
  place_ended (suc g) h e k = rw (full, e, k)

  pub place_more : (g : ℕ) → length t ≤ g → record_code start words upper t ≡ 0 → (kind_in t ≡ 1 → ⊥)
      → refused_from g start words upper t ≡ digits_in t + 2 + refused_from (less g) start words (upper_after upper t) (rest_of t)
  unfolding refused_from
  place_more zero h e k = absurd (omega arith)
  place_more (suc g) h e k = rw (full, e, ne_eqb (kind_in t) 1 k)

  pub said_more : (g : ℕ) → length t ≤ g → said_from g upper t ≡ said_by upper t ++ said_from (less g) (upper_after upper t) (rest_of t)
  unfolding said_from
  said_more zero h = absurd (omega arith)
  said_more (suc g) h = rw full

  -- where no code applies, none applies to the first record, nor to the rest
  pub good_step : (g : ℕ) → length t ≤ g → code_from g start words upper t ≡ 0
      → (record_code start words upper t ≡ 0) × (0 < length (rest_of t) → code_from (less g) start words (upper_after upper t) (rest_of t) ≡ 0)
  unfolding code_from
  good_step zero h e = absurd (omega arith)
  good_step (suc g) h e = by (ℕ_discrete (record_code start words upper t) 0) (ℕ_discrete (kind_in t) 1)
    where
      by : Dec (record_code start words upper t ≡ 0) → Dec (kind_in t ≡ 1) → (record_code start words upper t ≡ 0) × (0 < length (rest_of t) → code_from g start words (upper_after upper t) (rest_of t) ≡ 0)
      by (no n) k = absurd (n (sym (code_refused (suc g) h n) ∙ e))
      by (yes z) (no n) = (z, λ m. sym (code_more (suc g) h z n) ∙ e)
      by (yes z) (yes k) = (z, λ m. let w : ◌≡◌ {A = ℕ} 19 0 = sym (code_ended (suc g) h z k ∙ rw (ne_eqb (length (rest_of t)) 0 (λ q. omega (arith, q)))) ∙ e in absurd (omega (arith, w)))

-- ---- its first four bytes

module _ (t : List ℕ) (fits : 9 ≤ length t) (all : all_digits (take 8 (drop 1 t)) ≡ true) where
  pub four_bytes : bytes_high_first 4 (number (take 8 (drop 1 t))) ≡ byte_in t 0 ∷ byte_in t 1 ∷ byte_in t 2 ∷ byte_in t 3 ∷ []
  unfolding bytes_at
  four_bytes = last_read t 9 4 (omega arith) (omega arith) fits all ∙ bytes_here t 0 4 fits

module _ (t : List ℕ) (fits : 9 ≤ length t) (all : all_digits (take 8 (drop 1 t)) ≡ true) (bs : List ℕ) (offset : ℕ) (are : bs ≡ bytes_high_first 4 (number (take 8 (drop 1 t))))
    (is : offset ≡ slice_index_or bs 1 0 * 256 + slice_index_or bs 2 0) where
  pub head_says : (slice_index_or bs 0 0 ≡ count_in t) × (offset ≡ offset_in t) × (slice_index_or bs 3 0 ≡ kind_in t)
  head_says =
      let e : bs ≡ byte_in t 0 ∷ byte_in t 1 ∷ byte_in t 2 ∷ byte_in t 3 ∷ [] = are ∙ four_bytes t fits all in
      rw (is, e) (refl, refl, refl)

-- ---- whether it is a record

pub short_not : (t : List ℕ) → length t ≤ digits_in t + 1 → is_record t ≡ false
unfolding is_record
short_not t h = rw (le-ltb (digits_in t + 1) (length t) h)

second_not : (a : Bool) → (a && false) ≡ false
second_not false = refl
second_not true = refl

-- the first eight digits are among its digits
pub head_not : (t : List ℕ) → all_digits (take 8 (drop 1 t)) ≡ false → is_record t ≡ false
unfolding is_record
head_not t e =
    let d = take (digits_in t) (drop 1 t) in
    let first : take 8 (drop 0 d) ≡ take 8 (drop 1 t) = take-take 8 (digits_in t) (drop 1 t) (omega arith) in
    rw (part_not 8 0 d (rw first e)) (second_not (ltb (digits_in t + 1) (length t) && eqb (get_or t 0 0) 58))

pub kind_not : (t : List ℕ) → is_kind (kind_in t) (count_in t) (offset_in t) ≡ false → is_record t ≡ false
unfolding is_record
kind_not t e = rw e (second (ltb (digits_in t + 1) (length t) && eqb (get_or t 0 0) 58) (all_digits (take (digits_in t) (drop 1 t))) (eqb (get_or t (digits_in t + 1) 0) 10))
  where
    second : (a b c : Bool) → (a && ((b && c) && false)) ≡ false
    second false b c = refl
    second true false c = refl
    second true true false = refl
    second true true true = refl

-- with all of the tests but the digits
pub framed : (t : List ℕ) → digits_in t + 1 < length t → is_kind (kind_in t) (count_in t) (offset_in t) ≡ true
    → is_record t ≡ ((eqb (get_or t 0 0) 58 && eqb (get_or t (digits_in t + 1) 0) 10) && all_digits (take (digits_in t) (drop 1 t)))
unfolding is_record
framed t h e = rw (e, lt-ltb (digits_in t + 1) (length t) h) (turn (eqb (get_or t 0 0) 58) (all_digits (take (digits_in t) (drop 1 t))) (eqb (get_or t (digits_in t + 1) 0) 10))
  where
    turn : (b c d : Bool) → (b && ((c && d) && true)) ≡ ((b && d) && c)
    turn false c d = refl
    turn true false false = refl
    turn true false true = refl
    turn true true false = refl
    turn true true true = refl

part_of : (n i m : ℕ) (s : List ℕ) → i + n ≤ m → take n (drop i (take m s)) ≡ take n (drop i s)
part_of n i m s h = let e : m ≡ i + (m - i) = omega arith in rw (e, drop-take i (m - i) s) (take-take n (m - i) (drop i s) (omega arith))

-- ---- what a record has

module _ (t : List ℕ) (is : is_record t ≡ true) where
  tests : ((ltb (digits_in t + 1) (length t) && eqb (get_or t 0 0) 58) ≡ true)
      × (((all_digits (take (digits_in t) (drop 1 t)) && eqb (get_or t (digits_in t + 1) 0) 10) && is_kind (kind_in t) (count_in t) (offset_in t)) ≡ true)
  unfolding is_record
  tests = both _ _ is

  pub record_fits : digits_in t + 2 ≤ length t
  record_fits = omega (arith, ltb-true (digits_in t + 1) (length t) (both (ltb (digits_in t + 1) (length t)) _ tests.0).0)

  pub record_digits : all_digits (take (digits_in t) (drop 1 t)) ≡ true
  record_digits = (both (all_digits (take (digits_in t) (drop 1 t))) _ (both _ _ tests.1).0).0

  -- n digits from digit i on
  pub digits_from : (i n : ℕ) → i + n ≤ digits_in t → all_digits (take n (drop (1 + i) t)) ≡ true
  digits_from i n h =
      let e : take n (drop i (take (digits_in t) (drop 1 t))) ≡ take n (drop (1 + i) t) = part_of n i (digits_in t) (drop 1 t) h ∙ rw (drop-drop i 1 t) in
      rw e at (all_part n i (take (digits_in t) (drop 1 t)) record_digits)

  pub content_bytes : content_in t ≡ bytes_in (take (2 * count_in t) (drop 9 t))
  unfolding content_in
  content_bytes = sym (bytes_here t 4 (count_in t) (omega (arith, record_fits)))

  pub upper_count : kind_in t ≡ 4 → count_in t ≡ 2
  unfolding is_kind
  upper_count e =
      let k = (both (all_digits (take (digits_in t) (drop 1 t)) && eqb (get_or t (digits_in t + 1) 0) 10) _ tests.1).1 in
      let k' : (eqb (offset_in t) 0 && eqb (count_in t) 2) ≡ true = rw e at k in
      eqb-true (count_in t) 2 (both (eqb (offset_in t) 0) (eqb (count_in t) 2) k').1

  -- its upper bits, read with the four digits before them
  pub upper_read : kind_in t ≡ 4 → number (take 8 (drop 5 t)) % 65536 ≡ byte_in t 4 * 256 + byte_in t 5
  unfolding bytes_at
  upper_read k =
      let w = number (take 8 (drop 5 t)) in
      let read = last_read t 13 2 (omega arith) (omega arith) (omega (arith, record_fits, upper_count k)) (digits_from 4 8 (omega (arith, upper_count k))) ∙ bytes_here t 4 2 (omega (arith, record_fits, upper_count k)) in
      let first : w / 256 % 256 ≡ byte_in t 4 = ap (λ (l : List ℕ). get_or l 0 0) read in
      let second : w % 256 ≡ byte_in t 5 = ap (λ (l : List ℕ). get_or l 1 0) read in
      omega (arith, first, second)

-- its text, by its head
pub record_ends : (t : List ℕ) (h : Head) (n : ℕ) → is_record t ≡ true → Reads t h → n ≡ 2 * h.count + 12 → (n ≤ length t) × (drop n t ≡ rest_of t) × (n ≡ digits_in t + 2)
record_ends t h n is r e =
    let f : n ≡ digits_in t + 2 = omega (arith, r.counts) in
    (omega (arith, record_fits t is), ap (λ (k : ℕ). drop k t) f, f)

pub rest_fits : (t : List ℕ) → is_record t ≡ true → length (rest_of t) + (digits_in t + 2) ≡ length t
rest_fits t is = rw length-drop (omega (arith, record_fits t is))

-- a head is read of a record
pub head_some : (t : List ℕ) (o : Option Head) → is_record t ≡ true → HeadRead t o → IsSome o
head_some t (Some h) is r = search rules
head_some t None is r = absurd (true≢false (sym is ∙ r))

-- its type, tested
pub is_data : (k : Kind) → sameb the_type k Data ≡ eqb (kind_number k) 0
is_data Data = refl
is_data End = refl
is_data Upper = refl

pub is_end : (k : Kind) → sameb the_type k End ≡ eqb (kind_number k) 1
is_end Data = refl
is_end End = refl
is_end Upper = refl

-- ---- the sum of its bytes, and its code

module _ (t : List ℕ) (h : Head) (begins : Begins t h) where
  abbrev digits : List ℕ
  digits = take (digits_in t) (drop 1 t)

  same : is_record t ≡ all_digits (drop 8 digits)
  same = begins.digits ∙ split 8 digits ∙ rw (first, begins.some)
    where
      first : take 8 digits ≡ take 8 (drop 1 t)
      first = take-take 8 (digits_in t) (drop 1 t) (omega arith)

  pub sum_no : ◌≡◌ {A = Option ℕ} None (sum_of (drop 8 digits)) → is_record t ≡ false
  sum_no e = same ∙ sum_none (drop 8 digits) e

  pub sum_says : (s : ℕ) → Some s ≡ sum_of (drop 8 digits) → (is_record t ≡ true) × ((h.count + h.offset / 256 + h.offset % 256 + kind_number h.kind) % 256 + s) % 256 ≡ total_in t % 256
  unfolding total_in bytes_at total
  sum_says s e =
      let d = sum_some (drop 8 digits) s e in
      let n = count_in t in
      let five : n + 5 ≡ suc (suc (suc (suc (n + 1)))) = omega arith in
      let places : digits_in t ≡ 8 + 2 * (n + 1) = omega arith in
      let long = begins.fits in
      let there : bytes_in (drop 8 digits) ≡ bytes_at t 4 (n + 1) = rw (places, drop-take 8 (2 * (n + 1)) (drop 1 t), drop-drop 8 1 t) (bytes_here t 4 (n + 1) (omega arith)) in
      let r = begins.reads in
      let sum : s ≡ total (bytes_at t 4 (n + 1)) % 256 = d.1 ∙ ap (λ (l : List ℕ). total l % 256) there in
      (same ∙ d.0, rw (five) (omega (arith, r.counts, r.offsets, r.kinds, byte_low t 0, byte_low t 1, byte_low t 2, byte_low t 3, sum)))

module _ (start words upper : ℕ) (t : List ℕ) where
  pub not_record : is_record t ≡ false → record_code start words upper t ≡ 16
  unfolding record_code
  not_record e = rw e

  pub bad_sum : is_record t ≡ true → (total_in t % 256 ≡ 0 → ⊥) → record_code start words upper t ≡ 17
  unfolding record_code
  bad_sum is e = rw (is, ne_eqb (total_in t % 256) 0 e)

  pub last_code : is_record t ≡ true → total_in t % 256 ≡ 0 → record_code start words upper t ≡ cond (eqb (kind_in t) 0 && not (all_inside start words (address_in upper t) (count_in t))) 18 0
  unfolding record_code
  last_code is e = rw (is, e)

  -- a record of no code is one, and its bytes are in the window
  pub code_says : record_code start words upper t ≡ 0 → (is_record t ≡ true) × (kind_in t ≡ 0 → all_inside start words (address_in upper t) (count_in t) ≡ true)
  unfolding record_code
  code_says e =
      let p = by (is_record t) (eqb (total_in t % 256) 0) (eqb (kind_in t) 0) (all_inside start words (address_in upper t) (count_in t)) e in
      (p.0, λ k. p.1 (eq-eqb (kind_in t) 0 k))
    where
      by : (r z k i : Bool) → ◌≡◌ {A = ℕ} (cond (not r) 16 (cond (not z) 17 (cond (k && not i) 18 0))) 0 → (r ≡ true) × (k ≡ true → i ≡ true)
      by false z k i e = absurd (omega arith)
      by true false k i e = absurd (omega arith)
      by true true false i e = (refl, λ f. absurd (true≢false (sym f)))
      by true true true true e = (refl, λ f. refl)
      by true true true false e = absurd (omega arith)
