-- A record of Intel HEX (document 02, Ask 7), and its text: a line of upper-case digits.
use Rattle.std.specs.Prelude.{ℕ, ◌+◌, ◌-◌, ◌/◌, ◌%◌, List, [], ◌∷◌, ◌++◌, length}
use Rattle.hex_digits.specs.Hex.{digits}

pub record Record : Type 0 where
  pub kind : ℕ
  pub offset : ℕ
  pub content : List ℕ

unfoldable pub total : List ℕ → ℕ
total [] = 0
total (b ∷ bs) = b + total bs

-- a record's bytes but the last
unfoldable pub front : Record → List ℕ
front r = length r.content ∷ r.offset / 256 ∷ r.offset % 256 ∷ r.kind ∷ r.content

-- the last makes the sum of all a multiple of 256
unfoldable pub check : List ℕ → ℕ
check bs = (256 - total bs % 256) % 256

unfoldable pub all_bytes : Record → List ℕ
all_bytes r = front r ++ (check (front r) ∷ [])

-- bytes as digits, two to a byte
unfoldable pub hexes : List ℕ → List ℕ
hexes [] = []
hexes (b ∷ bs) = digits 2 b ++ hexes bs

-- the bytes around the digits
abbrev pub colon : ℕ
colon = 58

abbrev pub lf : ℕ
lf = 10

unfoldable pub text_of : Record → List ℕ
text_of r = colon ∷ hexes (all_bytes r) ++ (lf ∷ [])

unfoldable pub texts : List Record → List ℕ
texts [] = []
texts (r ∷ rs) = text_of r ++ texts rs
