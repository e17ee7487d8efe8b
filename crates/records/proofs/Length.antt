-- How long an export is.
--     length_texts                     records joined
--     records_long                     the records from an address on, of which so many bytes stand before the border and so many past it
use Prim.Native.Nat.{ℕ, zero, suc, ◌+◌, ◌-◌, ◌*◌, ◌/◌, ◌%◌, min, ◌<◌, ◌≤◌}
use mathlib.Core.Path.{◌≡◌, refl, ap, ◌∙◌}
use mathlib.Core.Bool.{Bool, true, false, cond}
use mathlib.Core.List.{List, [], ◌∷◌, ◌++◌}
use native.Mathlib.Nat.{le_refl}
use native.Mathlib.Omega.{arith}
use lib.ListN.{length, take, drop, length-append, length-drop}
use lib.Seq.{length-take-le}
use lib.Dec.{eqb, ltb}
use borrow.Author.Tests.{eq-eqb, ne_eqb, ltb-true, ltb-false}
use Rattle.records.specs.Window.{window_bytes}
use Rattle.records.specs.Record.{Record, texts}
use Rattle.records.specs.Export.{upper_of, upper_record, data_record, end_record, changed, cut, records_from, records_of, export_of, export_length}
use Rattle.records.specs.Promises.{ExportLength}
use Rattle.records.proofs.Bytes.{length_bytes}
use Rattle.records.proofs.Read.{length_text}
use Rattle.records.proofs.Induction.{cut_is}

-- ---- texts

pub length_texts : (rs qs : List Record) → length (texts (rs ++ qs)) ≡ length (texts rs) + length (texts qs)
unfolding texts
length_texts [] qs = omega arith
length_texts (r ∷ rs) qs = rw (length-append, length-append) (omega (arith, length_texts rs qs))

one_text : (r : Record) (rs : List Record) → length (texts (r ∷ rs)) ≡ 2 * length r.content + 12 + length (texts rs)
unfolding texts
one_text r rs = rw (length-append, length_text r)

no_text : length (texts []) ≡ 0
unfolding texts
no_text = refl

changed_none : (upper next : ℕ) → next ≡ upper → length (texts (changed upper next)) ≡ 0
unfolding changed texts
changed_none upper next e = rw (eq-eqb next upper e)

changed_one : (upper next : ℕ) → (next ≡ upper → ⊥) → length (texts (changed upper next)) ≡ 16
unfolding changed
changed_one upper next e = rw (ne_eqb next upper e) (omega (arith, one_text (upper_record next) [], no_text))

-- ---- records

abbrev other : ℕ → ℕ
other second = cond (eqb second 0) 0 16

other_some : (s : ℕ) → 0 < s → other s ≡ 16
other_some s h = rw (ne_eqb s 0 (λ e. omega arith))

-- the first record's upper bits, and all else
abbrev long : ℕ → ℕ → ℕ → ℕ → ℕ
long upper a first second =
    cond (eqb (first + second) 0) 0 (length (texts (changed upper (upper_of a)))) + (2 * (first + second) + 12 * ((first + 15) / 16 + (second + 15) / 16)) + other second

long_some : (upper a first second : ℕ) → 0 < first
    → long upper a first second ≡ length (texts (changed upper (upper_of a))) + (2 * (first + second) + 12 * ((first + 15) / 16 + (second + 15) / 16)) + other second
long_some upper a first second h = rw (ne_eqb (first + second) 0 (λ e. omega arith))

same_part : (a n : ℕ) → a % 65536 + n < 65536 → (a + n) / 65536 ≡ a / 65536
same_part a n h = omega arith

next_part : (a n : ℕ) → a % 65536 + n ≡ 65536 → (a + n) / 65536 ≡ a / 65536 + 1
next_part a n h = omega arith

other_part : (q : ℕ) → (q + 1) % 65536 ≡ q % 65536 → ⊥
other_part q e = omega arith

-- so many bytes stand before the border and so many past it
record Sides (a left first second : ℕ) : Type 0 where
  pub whole : left ≡ first + second
  pub before : first ≤ 65536 - a % 65536
  pub past : 0 < second → first ≡ 65536 - a % 65536
  pub few : second ≤ 65536

-- the sides after n bytes, with the length of the record of upper bits that comes next
record After (a n left first second : ℕ) : Type 0 where
  pub first' : ℕ
  pub second' : ℕ
  pub sides : Sides (a + n) (left - n) first' second'
  pub same : 2 * n + 12 + long (upper_of a) (a + n) first' second' ≡ 2 * (first + second) + 12 * ((first + 15) / 16 + (second + 15) / 16) + other second

module _ (a left first second : ℕ) (s : Sides a left first second) (some : 0 < first) where
  cut-first : cut a left ≡ min 16 first
  unfolding cut
  cut-first = by (ltb 0 second) refl
    where
      by : (t : Bool) → ltb 0 second ≡ t → min (min 16 left) (65536 - a % 65536) ≡ min 16 first
      by true e = let w = s.whole in let h = s.past (ltb-true 0 second e) in omega arith
      by false e = let w = s.whole in let h = ltb-false 0 second e in let k = s.before in omega arith

  -- more than 16 before the border
  sixteen : 16 < first → After a 16 left first second
  sixteen h =
      let w = s.whole in
      let b = s.before in
      let border : 65536 - (a + 16) % 65536 ≡ 65536 - a % 65536 - 16 = omega arith in
      let upper : upper_of (a + 16) ≡ upper_of a = ap (λ (q : ℕ). q % 65536) (same_part a 16 (omega arith)) in
      let up = changed_none (upper_of a) (upper_of (a + 16)) upper in
      let l = long_some (upper_of a) (a + 16) (first - 16) second (omega arith) in
      let one : (first - 16 + 15) / 16 + 1 ≡ (first + 15) / 16 = omega arith in
      record {
        first' = first - 16;
        second' = second;
        sides = record { whole = omega arith; before = omega arith; past = λ k. let p = s.past k in omega arith; few = s.few };
        same = omega (arith, l, up, one);
      }

  -- the last ones before the border, and none past it
  ended : first ≤ 16 → second ≡ 0 → After a first left first second
  ended h z =
      let w = s.whole in
      let one : (first + 15) / 16 ≡ 1 = omega arith in
      record {
        first' = 0;
        second' = 0;
        sides = record { whole = omega arith; before = omega arith; past = λ k. absurd (omega arith); few = omega arith };
        same = rw z (omega (arith, one));
      }

  -- the last ones before the border, and some past it
  crossed : first ≤ 16 → 0 < second → After a first left first second
  crossed h k =
      let w = s.whole in
      let b = s.past k in
      let f = s.few in
      let one : (first + 15) / 16 ≡ 1 = omega arith in
      let border : (a + first) % 65536 ≡ 0 = omega arith in
      let upper : upper_of (a + first) ≡ upper_of a → ⊥ = λ e. other_part (a / 65536) (rw (next_part a first (omega arith)) at e) in
      let up = changed_one (upper_of a) (upper_of (a + first)) upper in
      let l = long_some (upper_of a) (a + first) second 0 k in
      let o = other_some second k in
      record {
        first' = second;
        second' = 0;
        sides = record { whole = omega arith; before = omega arith; past = λ z. absurd (omega arith); few = omega arith };
        same = omega (arith, l, up, o, one);
      }

  after : (n : ℕ) → n ≡ cut a left → After a n left first second
  after n e = by (ltb 16 first) refl (ltb 0 second) refl
    where
      by : (t : Bool) → ltb 16 first ≡ t → (u : Bool) → ltb 0 second ≡ u → After a n left first second
      by true p u q = let h = ltb-true 16 first p in let c : n ≡ 16 = omega (arith, cut-first) in rw c (sixteen h)
      by false p true q = let h = ltb-false 16 first p in let c : n ≡ first = omega (arith, cut-first) in rw c (crossed h (ltb-true 0 second q))
      by false p false q = let h = ltb-false 16 first p in let c : n ≡ first = omega (arith, cut-first) in let z : second ≡ 0 = omega (arith, ltb-false 0 second q) in rw c (ended h z)

records_long : (most upper a : ℕ) (bs : List ℕ) (first second : ℕ) → Sides a (length bs) first second → length bs ≤ most → length (texts (records_from most upper a bs)) ≡ long upper a first second
unfolding records_from
records_long zero upper a bs first second s h =
    let w = s.whole in
    let f : first ≡ 0 = omega arith in
    let z : second ≡ 0 = omega arith in
    rw (f, z) no_text
records_long (suc most) upper a [] first second s h =
    let w = s.whole in
    let f : first ≡ 0 = omega arith in
    let z : second ≡ 0 = omega arith in
    rw (f, z) no_text
records_long (suc most) upper a (b ∷ bs) first second s h =
    let w = s.whole in
    let n = cut a (length (b ∷ bs)) in
    let some : 0 < first = by (ltb 0 first) refl in
    let t = after a (length (b ∷ bs)) first second s some n refl in
    let within : n ≤ length (b ∷ bs) = (cut_is a (length (b ∷ bs)) (omega arith)).2 in
    let left = length-drop n (b ∷ bs) in
    let rest = records_long most (upper_of a) (a + n) (drop n (b ∷ bs)) t.first' t.second' (rw (← left) at t.sides) (omega (arith, left, (cut_is a (length (b ∷ bs)) (omega arith)).0)) in
    let one = one_text (data_record a (take n (b ∷ bs))) (records_from most (upper_of a) (a + n) (drop n (b ∷ bs))) in
    length_texts (changed upper (upper_of a)) _
    ∙ omega (arith, one, length-take-le n (b ∷ bs) within, rest, t.same, long_some upper a first second some)
  where
    by : (t : Bool) → ltb 0 first ≡ t → 0 < first
    by true e = ltb-true 0 first e
    by false e = let f = ltb-false 0 first e in let w = s.whole in let p = s.past (omega arith) in absurd (omega arith)

either_zero : (t : Bool) {c : ℕ} → c ≡ 0 → cond t 0 c ≡ 0
either_zero true e = refl
either_zero false e = e

pub export_length_lem : ExportLength
unfolding export_of records_of export_length
export_length_lem start words few =
    let bs = window_bytes words in
    let first = min (4 * length words) (65536 - start % 65536) in
    let second = 4 * length words - first in
    let s : Sides start (length bs) first second = record { whole = omega (arith, length_bytes words); before = omega arith; past = λ h. omega arith; few = omega arith } in
    let r = records_long (length bs) (upper_of start) start bs first second s (le_refl (length bs)) in
    let none = either_zero (eqb (first + second) 0) (changed_none (upper_of start) (upper_of start) refl) in
    one_text (upper_record (upper_of start)) _ ∙ omega (arith, length_texts (records_from (length bs) (upper_of start) start bs) (end_record ∷ []), r, one_text end_record [], no_text, none)
