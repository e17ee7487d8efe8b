-- What is promised of the labels of every set.
--     every-label    a test that every label of every set passes, computed once over all
--     labels_there   which codes have one
use Prim.Native.Nat.{ℕ, zero, suc, ◌+◌, ◌≤◌, ◌<◌}
use mathlib.Core.Path.{◌≡◌, refl, ◌∙◌}
use mathlib.Core.List.{List, [], ◌∷◌}
use mathlib.Core.Bool.{Bool, true, false, cond, not, ◌&&◌, ◌||◌}
use lib.Dec.{leb, ltb, eqb}
use native.Mathlib.Omega.{arith}
use borrow.Author.Tests.{leb-true, ltb-true, ltb-false, le-ltb, ne_eqb, not-true}
use lib.ListN.{length, get_or, length-append, get_or-eq_default}
use Rattle.laws.proofs.Below.{both, below, below_at}
use Rattle.hex_digits.proofs.Numbers.{length_digits}
use Rattle.logline.specs.Labels.{english, german, label_sets, is_set, label_in, label_of}
use Rattle.logline.specs.LogLine.{numbers, log_body, log_line}
use Rattle.logline.specs.Promises.{LabelsShort, LabelsThere, is_plain, LabelsPlain, LineFits}

abbrev pub every : {A : Type 0} → (A → Bool) → List A → Bool
every test [] = true
every test (x ∷ xs) = test x && every test xs

pub every_at : {A : Type 0} (d : A) (test : A → Bool) → test d ≡ true → (xs : List A) → every test xs ≡ true → (n : ℕ) → test (get_or xs n d) ≡ true
every_at d test none [] e n = none
every_at d test none (x ∷ xs) e zero = (both (test x) (every test xs) e).0
every_at d test none (x ∷ xs) e (suc n) = every_at d test none xs (both (test x) (every test xs) e).1 n

-- a test of every row, and of no label
module _ (test : List ℕ → Bool) (none : test [] ≡ true) where
  by_row : (b : Bool) (l m : List ℕ) → test l ≡ true → test m ≡ true → test (cond b l m) ≡ true
  by_row true l m p q = p
  by_row false l m p q = q

  in_rows : (rows : List (ℕ × List ℕ)) (code : ℕ) → every (λ (r : ℕ × List ℕ). test r.1) rows ≡ true → test (label_in rows code) ≡ true
  unfolding label_in
  in_rows [] code e = none
  in_rows (r ∷ rs) code e =
      let parts = both (test r.1) (every (λ (q : ℕ × List ℕ). test q.1) rs) e in by_row (eqb r.0 code) r.1 (label_in rs code) parts.0 (in_rows rs code parts.1)

  pub every-label : every (every (λ (r : ℕ × List ℕ). test r.1)) label_sets ≡ true → (set code : ℕ) → test (label_of set code) ≡ true
  unfolding label_of
  every-label e set code = in_rows (get_or label_sets set []) code (every_at [] (every (λ (r : ℕ × List ℕ). test r.1)) refl label_sets e set)

pub labels_short : LabelsShort
unfolding label_sets english german
labels_short set code = leb-true (length (label_of set code)) 18 (every-label (λ l. leb (length l) 18) refl refl set code)

pub labels_plain : LabelsPlain
unfolding label_sets english german
labels_plain set code at h = plain_at (label_of set code) at (every-label (every is_plain) refl refl set code) h
  where
    plain_at : (l : List ℕ) (n : ℕ) → every is_plain l ≡ true → n < length l → is_plain (get_or l n 0) ≡ true
    plain_at [] n e h = absurd (omega arith)
    plain_at (x ∷ xs) zero e h = (both (is_plain x) (every is_plain xs) e).0
    plain_at (x ∷ xs) (suc n) e h = plain_at xs n (both (is_plain x) (every is_plain xs) e).1 (omega arith)

-- ---- which codes have one: up to 24 computed for each

past : (rows : List (ℕ × List ℕ)) (code : ℕ) → every (λ (r : ℕ × List ℕ). ltb r.0 25) rows ≡ true → 25 ≤ code → label_in rows code ≡ []
unfolding label_in
past [] code e h = refl
past (r ∷ rs) code e h =
    let parts = both (ltb r.0 25) (every (λ (q : ℕ × List ℕ). ltb q.0 25) rs) e in
    let few = ltb-true r.0 25 parts.0 in
    rw (ne_eqb r.0 code (λ q. omega arith)) (past rs code parts.1 h)

pub past_24 : (set code : ℕ) → 25 ≤ code → label_of set code ≡ []
unfolding label_sets english german label_of
past_24 set code h = past (get_or label_sets set []) code (every_at [] (every (λ (r : ℕ × List ℕ). ltb r.0 25)) refl label_sets refl set) h

-- the codes that have a label
abbrev is_labelled : ℕ → Bool
is_labelled code = ltb code 20 || eqb code 24

as_labelled : ℕ → ℕ → Bool
as_labelled set code = cond (is_labelled code) (ltb 0 (length (label_of set code))) (not (ltb 0 (length (label_of set code))))

all_as_labelled : ℕ → Bool
all_as_labelled set = below (as_labelled set) 25

module _ (set code : ℕ) (s : is_set set ≡ true) where
  labelled_below : code < 25 → as_labelled set code ≡ true
  unfolding label_sets english german is_set label_in label_of as_labelled all_as_labelled
  labelled_below h = below_at (as_labelled set) 25 code (below_at all_as_labelled (length label_sets) set refl (ltb-true set (length label_sets) s)) h

  same_by : (l t : Bool) → cond l t (not t) ≡ true → t ≡ l
  same_by true t e = e
  same_by false t e = not-true t e

  there_by : (b : Bool) → ltb code 25 ≡ b → ltb 0 (length (label_of set code)) ≡ is_labelled code
  unfolding as_labelled
  there_by true e = same_by (is_labelled code) (ltb 0 (length (label_of set code))) (labelled_below (ltb-true code 25 e))
  there_by false e =
      let h = ltb-false code 25 e in
      simp (past_24 set code h, le-ltb code 20 (omega arith), ne_eqb code 24 (λ q. omega arith))

pub labels_there : LabelsThere
labels_there set code s = there_by set code s (ltb code 25) refl

-- that a number is none of the n from a on
abbrev NoneFrom : ℕ → ℕ → ℕ → Type 0
NoneFrom a zero x = Unit
NoneFrom a (suc n) x = NoneFrom a n x × (x ≡ a + n → ⊥)

pub none_from : (a n x : ℕ) → a ≤ x → NoneFrom a n x → a + n ≤ x
none_from a zero x h r = omega arith
none_from a (suc n) x h r = let before = none_from a n x h r.0 in let other = r.1 in omega arith

empty : (l : List ℕ) → ltb 0 (length l) ≡ false → l ≡ []
empty [] e = refl
empty (x ∷ xs) e = let h = ltb-false 0 (length (x ∷ xs)) e in absurd (omega arith)

-- no label of a code from 16 on that is none of those that have one
pub no_row : (set code : ℕ) → is_set set ≡ true → 16 ≤ code → NoneFrom 16 4 code × (code ≡ 24 → ⊥) → label_of set code ≡ []
no_row set code s h r =
    let over = none_from 16 4 code h r.0 in
    let none : is_labelled code ≡ false = simp (le-ltb code 20 (omega arith), ne_eqb code 24 r.1) in
    empty (label_of set code) (labels_there set code s ∙ none)

-- and none of a number that is no set
pub no_set : (set code : ℕ) → 2 ≤ set → label_of set code ≡ []
unfolding label_sets label_in label_of
no_set set code h = rw (get_or-eq_default label_sets [] h) refl

pub line_fits : LineFits
unfolding numbers log_body log_line
line_fits set a = simp (length-append, length_digits) (omega (arith, labels_short set a.code))
