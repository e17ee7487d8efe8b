-- A text has as many lines as LFs, and one more if its last byte is none.
use Prim.Native.Nat.{ℕ, suc, ◌+◌, ◌-◌, ◌<◌}
use mathlib.Core.Path.{◌≡◌, refl, ◌∙◌}
use mathlib.Core.Bool.{Bool, true, false, cond, not}
use mathlib.Core.List.{List, [], ◌∷◌, ◌++◌}
use native.Mathlib.Omega.{arith}
use native.Mathlib.Decide.{ℕ_discrete}
use lib.ListN.{length, get_or, length-append}
use lib.Dec.{eqb}
use borrow.Author.Tests.{eq-eqb, ne_eqb}
use Rattle.std.proofs.Common.{Some, None}
use Rattle.std.specs.List.{count_by, slice_get}
use Rattle.std.proofs.lemmas.List.Sums.{sum_by-cons}
use Rattle.std.proofs.lemmas.Option.{slice_get_within, slice_get-get_or, get_or_from_slice_get}
use Rattle.lines.specs.Lines.{lf, lines_from, lines}
use Rattle.lines.proofs.Lines.{lines_lf, lines_other}

abbrev pub lfs : List ℕ → ℕ
lfs text = count_by (λ b. eqb b lf) text

-- the line that is left at the end, after one that has begun or not
open_in : Bool → List ℕ → ℕ
open_in b [] = cond b 1 0
open_in b (x ∷ xs) = open_in (not (eqb x 10)) xs

count_step : (begun : List ℕ) (x : ℕ) (xs : List ℕ) → Dec (x ≡ 10)
    → length (lines_from [] xs) ≡ lfs xs + open_in false xs
    → length (lines_from (begun ++ (x ∷ [])) xs) ≡ lfs xs + open_in (not (eqb (length (begun ++ (x ∷ []))) 0)) xs
    → length (lines_from begun (x ∷ xs)) ≡ lfs (x ∷ xs) + open_in (not (eqb x 10)) xs
count_step begun x xs (yes e) first more = rw (sum_by-cons (λ b. cond (eqb b lf) 1 0) x xs, lines_lf begun x xs e, eq-eqb x 10 e) (omega (arith, first))
count_step begun x xs (no e) first more =
    let longer : eqb (length (begun ++ (x ∷ []))) 0 ≡ false = ne_eqb (length (begun ++ (x ∷ []))) 0 (λ z. omega (arith, z, length-append begun (x ∷ []))) in
    rw (sum_by-cons (λ b. cond (eqb b lf) 1 0) x xs, lines_other begun x xs e, ne_eqb x 10 e) (let m = rw longer at more in omega (arith, m))

at_end_lem : (begun : List ℕ) (t : Bool) → length (cond {A = List (List ℕ)} t [] (begun ∷ [])) ≡ 0 + cond {A = ℕ} (not t) 1 0
at_end_lem begun true = refl
at_end_lem begun false = refl

lines_count : (begun xs : List ℕ) → length (lines_from begun xs) ≡ lfs xs + open_in (not (eqb (length begun) 0)) xs
unfolding open_in lines_from
lines_count begun [] = at_end_lem begun (eqb (length begun) 0)
lines_count begun (x ∷ xs) = count_step begun x xs (ℕ_discrete x 10) (lines_count [] xs) (lines_count (begun ++ (x ∷ [])) xs)

turned : (t : Bool) → ◌≡◌ {A = ℕ} (cond (not t) 1 0) (cond t 0 1)
turned true = refl
turned false = refl

last_open : (b : Bool) (x : ℕ) (xs : List ℕ) → open_in b (x ∷ xs) ≡ cond (eqb (get_or (x ∷ xs) (length xs) 0) 10) 0 1
unfolding open_in
last_open b x [] = turned (eqb x 10)
last_open b x (y ∷ ys) = last_open (not (eqb x 10)) y ys

count_lines : (text : List ℕ) → 0 < length text → length (lines text) ≡ lfs text + cond (eqb (get_or text (length text - 1) 0) 10) 0 1
count_lines [] h = absurd (omega arith)
count_lines (x ∷ xs) h = let at : suc (length xs) - 1 ≡ length xs = omega arith in rw at (lines_count [] (x ∷ xs) ∙ rw (last_open false x xs))

-- by the last byte, if there is one
pub count_open : (text : List ℕ) (b : ℕ) → slice_get text (length text - 1) ≡ Some b → (b ≡ 10 → ⊥) → length (lines text) ≡ lfs text + 1
count_open text b e other =
    let some = slice_get_within text (length text - 1) b e in
    let last = get_or_from_slice_get text (length text - 1) b 0 e in
    count_lines text (omega arith) ∙ rw (last, ne_eqb b 10 other)

pub count_closed : (text : List ℕ) (b : ℕ) → slice_get text (length text - 1) ≡ Some b → b ≡ 10 → length (lines text) ≡ lfs text
count_closed text b e lf =
    let some = slice_get_within text (length text - 1) b e in
    let last = get_or_from_slice_get text (length text - 1) b 0 e in
    let all = rw (last, eq-eqb b 10 lf) at (count_lines text (omega arith)) in
    omega arith

pub count_none : (text : List ℕ) → slice_get text (length text - 1) ≡ None → length (lines text) ≡ lfs text
unfolding lines_from
count_none [] e = refl
count_none (x ∷ xs) e = absurd (let some = slice_get-get_or (x ∷ xs) (suc (length xs) - 1) 0 (omega arith) in cc)
