-- Bytes in one number, the first lowest; and what the digits among them say.
use Rattle.std.specs.Prelude.{ℕ, ◌+◌, ◌*◌, ◌/◌, ◌%◌, ◌<◌, cond, List, [], ◌∷◌, Option, Some, None}
use Rattle.hex_digits.specs.Hex.{all_digits, number}

abbrev pub packed : List ℕ → ℕ
packed [] = 0
packed (b ∷ bs) = packed bs * 256 + b

-- each below a bound
abbrev pub Each : ℕ → List ℕ → Type 0
Each n [] = Unit
Each n (b ∷ bs) = (b < n) × Each n bs

-- the number of a digit, computed: its low four bits, and 9 more for a letter, which has bit 6; of any other byte some number below 25
abbrev pub number_in : ℕ → ℕ
number_in b = b % 16 + b / 64 % 2 * 9

abbrev pub numbers_in : List ℕ → List ℕ
numbers_in [] = []
numbers_in (b ∷ bs) = number_in b ∷ numbers_in bs

-- the number that the numbers of digits make, the highest first, after those that make n
abbrev pub joined_from : ℕ → List ℕ → ℕ
joined_from n [] = n
joined_from n (d ∷ ds) = joined_from (n * 16 + d) ds

-- the number that digits stand for, of bytes that may be none
unfoldable pub number_if_digits : List ℕ → Option ℕ
number_if_digits bs = cond (all_digits bs) (Some (number bs)) None
