-- The place past the first line is within the text, also within an empty one.
use Prim.Native.Nat.{ℕ, ◌≤◌, zero-le}
use mathlib.Core.List.{List, [], ◌∷◌}
use native.Mathlib.Omega.{arith}
use lib.ListN.{length}
use Rattle.lines.specs.Lines.{until_lf, line_end, past_line}
use Rattle.lines.proofs.Lines.{past_is}

pub past_first : (xs : List ℕ) → past_line xs 0 ≤ length xs
unfolding past_line line_end until_lf
past_first [] = zero-le
past_first (x ∷ xs) = (past_is (x ∷ xs) 0 (omega arith)).1
