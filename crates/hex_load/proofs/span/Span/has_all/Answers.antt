use mathlib.Core.Path.{◌≡◌, refl, sym}
use mathlib.Core.Bool.{Bool, true, false, ◌||◌}
use Prim.Native.Nat.{ℕ, zero, suc, ◌+◌, ◌*◌, ◌<◌, ◌≤◌, ◌^◌, ◌%◌}
use native.Mathlib.Omega.{arith}
use lib.Dec.{eqb, leb}
use borrow.Author.Tests.{ne_eqb, leb-true, leb-false}
use Rattle.records.specs.Load.{all_inside}
use Rattle.records.proofs.Promises.{all-inside}
use Rattle.hex_load.proofs.Window.{place_back, one_outside}
use Rattle.hex_load.proofs.span.Span.has_all.Goals as goal

-- by the place of the first address
module _ (start words a p : ℕ) (low : start < 2 ^ 32) (few : words ≤ 16384) (fits : p < 2 ^ 32) (is : a % 2 ^ 32 ≡ (start + p) % 2 ^ 32) where
  by : (n : ℕ) (t : Bool) → leb (p + suc n) (4 * words) ≡ t → t ≡ all_inside start words a (suc n)
  by n true e = sym (all-inside start words low few (suc n) a p is (leb-true (p + suc n) (4 * words) e))
  by n false e = sym (one_outside start words low few (suc n) a p fits is (omega arith) (leb-false (p + suc n) (4 * words) e))

  inside : (n : ℕ) → (eqb n 0 || leb (p + n) (4 * words)) ≡ all_inside start words a n
  unfolding all_inside
  inside zero = refl
  inside (suc n) = rw (ne_eqb (suc n) 0 (λ e. omega (arith, e))) (by n (leb (p + suc n) (4 * words)) refl)

pub returns : goal.returns
returns c =
    let s = c.args.self in
    let b = place_back s.start c.args.address c.place.result (omega arith) c.place.ensures in
    inside s.start s.words c.args.address c.place.result (omega arith) s.few b.0 b.1 c.args.count
