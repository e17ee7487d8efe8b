-- The first test of a table that holds: its code applies, none that stands before it does, and it is one of the table's.
use Prim.Native.Nat.{ℕ}
use mathlib.Core.Path.{◌≡◌, refl}
use mathlib.Core.Bool.{Bool, true, false, cond, not, ◌&&◌, ◌||◌, true≢false}
use mathlib.Core.List.{List, [], ◌∷◌}
use lib.Dec.{eqb}
use borrow.Author.Tests.{eq-eqb, not-true}
use Rattle.machine.specs.Words.{any_of}
use Rattle.machine.specs.State.{State}
use Rattle.machine.specs.Access.{Access}
use Rattle.machine.specs.Code.{code_of, tests}
use Rattle.promises.specs.CodeTable.{first_that, is_preceded, First}
use Rattle.laws.proofs.Tests.{and_left, and_right}

-- a number is none of a list's codes, and not 0; no code of a list stands in it twice
abbrev is_new : ℕ → List (ℕ × Bool) → Bool
is_new n [] = not (eqb n 0)
is_new n (t ∷ ts) = not (eqb n t.0) && is_new n ts

abbrev pub distinct : List (ℕ × Bool) → Bool
distinct [] = true
distinct (t ∷ ts) = is_new t.0 ts && distinct ts

-- what holds of each code of a list, and of 0, holds of the first
abbrev pub all_of : (ℕ → Bool) → List (ℕ × Bool) → Bool
all_of P [] = P 0
all_of P (t ∷ ts) = P t.0 && all_of P ts

pub every_of : (P : ℕ → Bool) (ts : List (ℕ × Bool)) → all_of P ts ≡ true → P (first_that ts) ≡ true
every_of P [] e = e
every_of P (t ∷ ts) e = by t.1 (and_left (P t.0) (all_of P ts) e) (every_of P ts (and_right (P t.0) (all_of P ts) e))
  where
    by : (b : Bool) → P t.0 ≡ true → P (first_that ts) ≡ true → P (cond b t.0 (first_that ts)) ≡ true
    by true p q = p
    by false p q = q

new_first : (n : ℕ) (ts : List (ℕ × Bool)) → is_new n ts ≡ true → eqb n (first_that ts) ≡ false
new_first n [] e = not-true (eqb n 0) e
new_first n (t ∷ ts) e = by t.1 (not-true (eqb n t.0) (and_left (not (eqb n t.0)) (is_new n ts) e)) (new_first n ts (and_right (not (eqb n t.0)) (is_new n ts) e))
  where
    by : (b : Bool) → eqb n t.0 ≡ false → eqb n (first_that ts) ≡ false → eqb n (cond b t.0 (first_that ts)) ≡ false
    by true p q = p
    by false p q = q

pub first_of : (ts : List (ℕ × Bool)) → distinct ts ≡ true → First (first_that ts) ts
first_of [] e = record { applies = λ z. absurd (true≢false z); first = refl }
first_of (t ∷ ts) e =
    by t.0 t.1 (new_first t.0 ts (and_left (is_new t.0 ts) (distinct ts) e)) (first_of ts (and_right (is_new t.0 ts) (distinct ts) e))
  where
    by : (n : ℕ) (b : Bool) → eqb n (first_that ts) ≡ false → First (first_that ts) ts → First (cond b n (first_that ts)) ((n, b) ∷ ts)
    by n true p low = let same = eq-eqb n n refl in record { applies = λ z. rw same; first = rw same }
    by n false p low = record { applies = λ z. rw p (low.applies z); first = rw p low.first }

-- the tests that stand before a code's, one by one
abbrev pub before : ℕ → List (ℕ × Bool) → List Bool
before code [] = []
before code (t ∷ ts) = cond (eqb t.0 code) [] (t.1 ∷ before code ts)

pub none_before : (code : ℕ) (ts : List (ℕ × Bool)) → is_preceded code ts ≡ false → any_of (before code ts) ≡ false
none_before code [] e = refl
none_before code (t ∷ ts) e = by (eqb t.0 code) t.1 e (none_before code ts)
  where
    by : (b c : Bool) → cond b false (c || is_preceded code ts) ≡ false → (is_preceded code ts ≡ false → any_of (before code ts) ≡ false) → any_of (cond b [] (c ∷ before code ts)) ≡ false
    by true c e rest = refl
    by false true e rest = e
    by false false e rest = rest e

-- the machine's own tests
pub first_code : (st : State) (start words : ℕ) (x : Access) → First (code_of st start words x) (tests st start words x)
unfolding code_of
first_code st start words x = first_of (tests st start words x) refl
