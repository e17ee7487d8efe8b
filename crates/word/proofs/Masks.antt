-- The mask of the four lowest bits is that of the whole number.
use Prim.Native.Nat.{ℕ, ◌%◌}
use mathlib.Core.Path.{◌≡◌}
use Rattle.machine.specs.Words.{bit, mask, byte_mask}
use Rattle.laws.proofs.Bits.{bit_low}

pub mask_of_low : (e k : ℕ) → e % 16 ≡ k → mask e ≡ mask k
unfolding mask byte_mask
mask_of_low e k h = rw (← h) (simp (bit_low 4 e 0, bit_low 4 e 1, bit_low 4 e 2, bit_low 4 e 3))
