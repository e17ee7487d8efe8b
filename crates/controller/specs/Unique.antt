-- A count is its number.
use Rattle.std.specs.Prelude.{ℕ, ◌≡◌}
use Rattle.controller.specs.declared.ByteCount.{ByteCount}

-- `count_unique`: a contract that fixes the number fixes the count
abbrev pub CountUnique : Type 0
CountUnique = (n : ℕ) (r q : ByteCount) → r.0 ≡ n → q.0 ≡ n → r ≡ q
