-- The set line, byte by byte: a turn of the loop that passes its bytes, and what is left where there is no set line.
use Prim.Native.Nat.{ℕ, ◌+◌, ◌*◌, ◌<◌}
use mathlib.Core.Bool.{true, false, ◌&&◌}
use borrow.Author.Tests.{eq-eqb, ne_eqb}
use lib.Dec.{ltb}
use Rattle.hex_digits.specs.Hex.{digit_number}
use Rattle.logline.specs.Labels.{is_set}
use mathlib.Core.Path.{◌≡◌, refl}
use mathlib.Core.List.{List, [], ◌∷◌, ◌++◌}
use native.Mathlib.Numerals.{add-one}
use native.Mathlib.Omega.{arith}
use lib.ListN.{length, get_or, drop}
use lib.Seq.{drop-cons}
use Rattle.input.specs.declared.Reading.{Reading}
use Rattle.input.specs.declared.Reading.TheVariants.{FirstLine, Frames, Over}
use Rattle.input.specs.declared.SetLine.{SetLine}
use Rattle.input.specs.declared.SetLine.TheVariants.{Nothing, Digit, Number}
use Rattle.input.specs.Input.{heard, passing}

pub passing_none : (r : Reading) → passing r [] ≡ record { reading = r; rest = [] }
unfolding passing
passing_none (FirstLine line) = refl
passing_none (Frames set) = refl
passing_none Over = refl

pub passing_frames : (set : ℕ) (xs : List ℕ) → passing (Frames set) xs ≡ record { reading = Frames set; rest = xs }
unfolding passing
passing_frames set [] = refl
passing_frames set (x ∷ xs) = refl

pub passing_over : (xs : List ℕ) → passing Over xs ≡ record { reading = Over; rest = xs }
unfolding passing
passing_over [] = refl
passing_over (x ∷ xs) = refl

pub passing_turn : (line : SetLine) (piece : List ℕ) (at : ℕ) → at < length piece
    → passing (FirstLine line) (drop at piece) ≡ passing (heard line (get_or piece at 0)) (drop (at + 1) piece)
unfolding passing
passing_turn line piece at h = rw (add-one, drop-cons piece at 0 h)

-- a piece, and what follows it
pub passing_append : (r : Reading) (xs ys : List ℕ) → passing r (xs ++ ys) ≡ passing (passing r xs).reading ((passing r xs).rest ++ ys)
unfolding passing
passing_append r [] ys = refl
passing_append (FirstLine line) (x ∷ xs) ys = passing_append (heard line x) xs ys
passing_append (Frames set) (x ∷ xs) ys = refl
passing_append Over (x ∷ xs) ys = refl

-- in the set line nothing is left of it
pub passing_rest : (r : Reading) (xs : List ℕ) (line : SetLine) → (passing r xs).reading ≡ FirstLine line → (passing r xs).rest ≡ []
unfolding passing
passing_rest r [] line e = refl
passing_rest (FirstLine before) (x ∷ xs) line e = passing_rest (heard before x) xs line e
passing_rest (Frames set) (x ∷ xs) line e = let z : Frames set ≡ FirstLine line = e in let w : ◌≡◌ {A = ℕ} 0 1 = cc in absurd (omega arith)
passing_rest Over (x ∷ xs) line e = let z : Over ≡ FirstLine line = e in let w : ◌≡◌ {A = ℕ} 0 1 = cc in absurd (omega arith)

-- ---- one byte of the set line

module _ (b : ℕ) where
  pub heard-lf : (set : ℕ) → b ≡ 10 → heard (Number set) b ≡ Frames set
  unfolding heard
  heard-lf set e = simp (eq-eqb b 10 e)

  pub heard-other : (set : ℕ) → (b ≡ 10 → ⊥) → heard (Number set) b ≡ Over
  unfolding heard
  heard-other set e = simp (ne_eqb b 10 e)

  pub heard-second : (high : ℕ) → (ltb (digit_number b) 16 && is_set (16 * high + digit_number b)) ≡ true → heard (Digit high) b ≡ FirstLine (Number (16 * high + digit_number b))
  unfolding heard
  heard-second high e = simp e

  pub heard-no-second : (high : ℕ) → (ltb (digit_number b) 16 && is_set (16 * high + digit_number b)) ≡ false → heard (Digit high) b ≡ Over
  unfolding heard
  heard-no-second high e = simp e

  pub heard-first : is_set (16 * digit_number b) ≡ true → heard Nothing b ≡ FirstLine (Digit (digit_number b))
  unfolding heard
  heard-first e = simp e

  pub heard-no-first : is_set (16 * digit_number b) ≡ false → heard Nothing b ≡ Over
  unfolding heard
  heard-no-first e = simp e
