use Rattle.std.proofs.Common.{ℕ, ◌/◌, ap, arith}
use Rattle.machine.specs.Window.{place_of}
use Rattle.window.proofs.Laws.{minus_is}
use Rattle.window.proofs.place.Goals as goal

pub returns : goal.returns
unfolding place_of
returns c = ap (λ (n : ℕ). n / 4) (minus_is _ _ _ (omega arith) (omega arith) c.wrapping_sub_u32.ensures.value)
