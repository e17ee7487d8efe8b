-- The tests of code 1 in the order of the code: of both lanes first, the bits of registers, last the rights.
use mathlib.Core.Path.{◌≡◌, refl, sym}
use mathlib.Core.Bool.{Bool, true, false, not, ◌&&◌, ◌||◌, or-true, true≢false}
use mathlib.Core.List.{[], ◌∷◌}
use Rattle.machine.specs.Words.{any_of}

pub in_pairs : (p₁ p₂ p₃ p₄ a₁ a₂ a₃ a₄ i m n : Bool)
    → any_of (any_of (p₁ ∷ p₂ ∷ p₃ ∷ p₄ ∷ []) ∷ any_of (a₁ ∷ a₂ ∷ a₃ ∷ a₄ ∷ []) ∷ i ∷ m ∷ n ∷ []) ≡ (((p₁ || a₁ || ((p₂ || a₂) || (p₃ || a₃))) || (i || m || n)) || (p₄ || a₄))
in_pairs true p₂ p₃ p₄ a₁ a₂ a₃ a₄ i m n = refl
in_pairs false true p₃ p₄ a₁ a₂ a₃ a₄ i m n = simp or-true
in_pairs false false true p₄ a₁ a₂ a₃ a₄ i m n = simp or-true
in_pairs false false false true a₁ a₂ a₃ a₄ i m n = simp or-true
in_pairs false false false false true a₂ a₃ a₄ i m n = refl
in_pairs false false false false false true a₃ a₄ i m n = refl
in_pairs false false false false false false true a₄ i m n = refl
in_pairs false false false false false false false true i m n = sym (or-true (i || m || n))
in_pairs false false false false false false false false true m n = refl
in_pairs false false false false false false false false false true n = refl
in_pairs false false false false false false false false false false true = refl
in_pairs false false false false false false false false false false false = refl

-- where no right stands, none is wrong
pub none_wrong : (r w p q : Bool) → not (r || w) ≡ true → false ≡ (r && p || w && q)
none_wrong true w p q h = absurd (true≢false (sym h))
none_wrong false true p q h = absurd (true≢false (sym h))
none_wrong false false p q h = refl
