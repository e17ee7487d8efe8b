-- The digits of an answer's small fields.
use Prim.Native.Nat.{ℕ, ◌+◌, ◌%◌}
use mathlib.Core.Path.{◌≡◌, refl}
use mathlib.Core.List.{List, ◌++◌, append_assoc}
use mathlib.Core.Bool.{Bool, true, false, cond}
use Rattle.hex_digits.specs.Hex.{hex_digits, digit_of}
use Rattle.std.specs.Int.{from_bool}

-- a line's digit
pub line_digit : (l : Bool) → 48 + from_bool l ≡ digit_of (cond l 1 0 % 16)
unfolding hex_digits digit_of
line_digit true = refl
line_digit false = refl

pub joined : (x e l m s : List ℕ) → x ++ (e ++ l ++ m ++ s) ≡ x ++ e ++ l ++ m ++ s
joined x e l m s = simp append_assoc
