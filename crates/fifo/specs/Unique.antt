-- A fill is its number.
use Rattle.std.specs.Prelude.{ℕ, ◌≡◌}
use Rattle.fifo.specs.declared.WordFill.{WordFill}

-- `fill_unique`: a contract that fixes the number fixes the fill
abbrev pub FillUnique : Type 0
FillUnique = (n : ℕ) (r q : WordFill) → r.0 ≡ n → q.0 ≡ n → r ≡ q
