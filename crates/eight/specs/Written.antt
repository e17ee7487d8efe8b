-- Eight digits as the bytes of one number, written all at once.
use Rattle.std.specs.Prelude.{ℕ, ◌+◌, ◌*◌, ◌/◌, ◌%◌, List, [], ◌∷◌}
use Rattle.std.specs.Int.Bits.{bit_and}

-- the lowest digits of some numbers as numbers below 16, each in a byte, the first in the lowest
unfoldable pub lowest_in : List ℕ → ℕ
lowest_in [] = 0
lowest_in (x ∷ xs) = lowest_in xs * 256 + x % 16

-- the digits of eight numbers below 16, each in a byte: 48 more, and 7 more where 6 more is above 15
unfoldable pub texts_at : ℕ → ℕ
texts_at n = n + 0x3030_3030_3030_3030 + bit_and ((n + 0x0606_0606_0606_0606) / 16) 0x0101_0101_0101_0101 * 7
