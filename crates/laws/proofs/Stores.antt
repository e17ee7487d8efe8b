-- A run of stores, `sets`, after a run. Neither asks that a store is within the list.
use Prim.Native.Nat.{ℕ, suc, ◌+◌}
use mathlib.Core.Path.{◌≡◌}
use mathlib.Core.List.{List, [], ◌∷◌, ◌++◌}
use native.Mathlib.Nat.{add-zero, add-suc, suc-add}
use lib.ListN.{length, set}
use lib.Seq.{sets}

-- `bs` are stored where `xs` end
pub sets_append : (l : List ℕ) (i : ℕ) (xs bs : List ℕ) → sets (sets l i xs) (i + length xs) bs ≡ sets l i (xs ++ bs)
sets_append l i [] bs = rw add-zero
sets_append l i (a ∷ xs) bs = rw (add-suc, ← suc-add) (sets_append (set l i a) (suc i) xs bs)
