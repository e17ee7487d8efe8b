-- What wrapping subtraction finds is the difference modulo 2^32.
use Rattle.std.proofs.Common.{◌≡◌, ℕ, ◌+◌, ◌%◌, ◌^◌, ◌<◌, mod-eq_of_lt, arith}
use Rattle.machine.specs.Window.{minus}

pub minus_is : (r a b : ℕ) → r < 2 ^ 32 → b < 2 ^ 32 → (r + b) % 2 ^ 32 ≡ a → r ≡ minus a b
minus_is r a b p q e = rw (mod-eq_of_lt q) (omega (arith, e))
