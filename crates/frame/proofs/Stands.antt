-- A line of other than 13 bytes, and the frame that bytes begin with.
use Prim.Native.Nat.{ℕ, zero, suc, ◌<◌}
use mathlib.Core.Path.{◌≡◌}
use mathlib.Core.List.{List, [], ◌∷◌}
use native.Mathlib.Omega.{arith}
use borrow.Author.Tests.{eq-eqb, ne_eqb}
use lib.ListN.{length, get_or, take}
use Rattle.std.proofs.Common.{None}
use Rattle.frame.specs.Frame.{is_frame, frame_of, frame_in}

pub getd_within : (n : ℕ) (xs : List ℕ) → get_or xs n 0 ≡ 10 → n < length xs
getd_within n [] e = absurd (omega arith)
getd_within zero (x ∷ xs) e = omega arith
getd_within (suc n) (x ∷ xs) e = let h = getd_within n xs e in omega arith

module _ (xs : List ℕ) where
  pub long_none : (length xs ≡ 13 → ⊥) → None ≡ frame_of xs
  unfolding frame_of is_frame
  long_none h = simp (ne_eqb _ _ h)

  pub no_lf_none : (get_or xs 13 0 ≡ 10 → ⊥) → None ≡ frame_in xs
  unfolding frame_in
  no_lf_none h = simp (ne_eqb (get_or xs 13 0) 10 h)

  pub few_none : length xs < 14 → None ≡ frame_in xs
  few_none h = no_lf_none (λ e. let k = getd_within 13 xs e in omega arith)

  pub lf_frame : get_or xs 13 0 ≡ 10 → frame_of (take 13 xs) ≡ frame_in xs
  unfolding frame_in
  lf_frame h = simp (eq-eqb (get_or xs 13 0) 10 h)
