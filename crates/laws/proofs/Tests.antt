-- Laws of tests: of `&&`, `||` and `cond`, of a list of tests, and of the first that applies.
use Prim.Native.Nat.{ℕ, zero, suc}
use mathlib.Core.Path.{◌≡◌, refl, sym, ◌∙◌}
use mathlib.Core.Bool.{Bool, true, false, cond, not, ◌&&◌, ◌||◌, true≢false}
use mathlib.Core.List.{List, [], ◌∷◌}
use lib.Dec.{eqb}
use lib.ListN.{get_or}
use borrow.Author.Tests.{eq-eqb}
use Rattle.machine.specs.Sides.{Side, pci, addon, either}
use Rattle.machine.specs.Words.{any_of}
use Rattle.machine.specs.Code.{first_of, test_of}

pub or_left : (a b : Bool) → (a || b) ≡ false → a ≡ false
or_left true b e = e
or_left false b e = refl

pub or_right : (a b : Bool) → (a || b) ≡ false → b ≡ false
or_right true b e = absurd (true≢false e)
or_right false b e = e

pub and_left : (a b : Bool) → (a && b) ≡ true → a ≡ true
and_left true b e = refl
and_left false b e = e

pub and_right : (a b : Bool) → (a && b) ≡ true → b ≡ true
and_right true b e = e
and_right false b e = absurd (true≢false (sym e))

pub and_at : (a b : Bool) → a ≡ true → (a && b) ≡ false → b ≡ false
and_at true b e f = f
and_at false b e f = absurd (true≢false (sym e))

-- a part of what a test chooses
pub cond_part : {A B : Type 0} (P : A → B) (b : Bool) (s t : A) → P (cond b s t) ≡ cond b (P s) (P t)
cond_part P true s t = refl
cond_part P false s t = refl

-- of neither side
pub neither : (f : Side → Bool) → either f ≡ false → (side : Side) → f side ≡ false
neither f e pci = or_left (f pci) (f addon) e
neither f e addon = or_right (f pci) (f addon) e

pub any_none : (bs : List Bool) → any_of bs ≡ false → (i : ℕ) → get_or bs i false ≡ false
any_none [] e i = refl
any_none (b ∷ bs) e zero = or_left b (any_of bs) e
any_none (b ∷ bs) e (suc i) = any_none bs (or_right b (any_of bs) e) i

-- four and five tests, one after the other
pub any_four : (a b c d : Bool) → (a || b || c || d) ≡ any_of (a ∷ b ∷ c ∷ d ∷ [])
any_four true b c d = refl
any_four false true c d = refl
any_four false false true d = refl
any_four false false false true = refl
any_four false false false false = refl

pub any_five : (a b c d e : Bool) → (a || b || c || d || e) ≡ any_of (a ∷ b ∷ c ∷ d ∷ e ∷ [])
any_five true b c d e = refl
any_five false b c d e = any_four b c d e

-- ---- the first test that applies

-- no code is 0
abbrev nonzero : List (ℕ × Bool) → Bool
nonzero [] = true
nonzero (t ∷ ts) = not (eqb t.0 0) && nonzero ts

-- done: no test applies
pub none_applies : (ts : List (ℕ × Bool)) → nonzero ts ≡ true → first_of ts ≡ 0 → (c : ℕ) → test_of c ts ≡ false
none_applies [] p e c = refl
none_applies (t ∷ ts) p e c = go t.1 t.0 p e (λ f. none_applies ts (and_right (not (eqb t.0 0)) (nonzero ts) p) f c) (eqb t.0 c)
  where
    go : (b : Bool) (n : ℕ) → (not (eqb n 0) && nonzero ts) ≡ true → cond b n (first_of ts) ≡ 0 → (first_of ts ≡ 0 → test_of c ts ≡ false) → (d : Bool)
        → cond d b (test_of c ts) ≡ false
    go true n p e f d = absurd (true≢false (sym p ∙ (λ i. not (eq-eqb n 0 e i) && nonzero ts)))
    go false n p e f true = refl
    go false n p e f false = f e
