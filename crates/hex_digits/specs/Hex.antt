-- Texts as bytes, and digits. Frames and the log: one table of sixteen digits, letters in upper case, by which frames are read and logs written.
use Rattle.std.specs.Prelude.{ℕ, zero, suc, ◌+◌, ◌*◌, ◌/◌, ◌%◌, List, [], ◌∷◌, ◌++◌, Bool, true, cond, ◌&&◌, get_or, ltb, eqb, Option, Some, None}
use Prim.Native.Char.{code}
use Prim.Native.String.{String, [] as none, ◌∷◌ as ◌then◌}

-- a text as its bytes
abbrev pub bytes : String → List ℕ
bytes none = []
bytes (c then s) = code c ∷ bytes s

unfoldable pub hex_digits : List ℕ
hex_digits = bytes "0123456789ABCDEF"

-- the place of a byte in a list, or the list's length if it isn't there
unfoldable pub place_in : List ℕ → ℕ → ℕ
place_in [] b = 0
place_in (x ∷ xs) b = cond (eqb b x) 0 (suc (place_in xs b))

-- the number of a digit is its place in the table; 16 for a byte that is no digit
unfoldable pub digit_number : ℕ → ℕ
digit_number b = place_in hex_digits b

-- the same of a byte that may be none
unfoldable pub digit_in : ℕ → Option ℕ
digit_in b = cond (ltb (digit_number b) 16) (Some (digit_number b)) None

unfoldable pub all_digits : List ℕ → Bool
all_digits [] = true
all_digits (b ∷ bs) = ltb (digit_number b) 16 && all_digits bs

-- the number that digits stand for, the highest first, after those that make n
unfoldable pub number_from : ℕ → List ℕ → ℕ
number_from n [] = n
number_from n (b ∷ bs) = number_from (n * 16 + digit_number b) bs

abbrev pub number : List ℕ → ℕ
number bs = number_from 0 bs

-- the digit of a number below 16
unfoldable pub digit_of : ℕ → ℕ
digit_of n = get_or hex_digits n 0

-- the lowest `count` digits of x, the highest first
unfoldable pub digits : ℕ → ℕ → List ℕ
digits zero x = []
digits (suc count) x = digits count (x / 16) ++ (digit_of (x % 16) ∷ [])
