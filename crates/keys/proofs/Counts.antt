-- What `log` counts are the done cycles.
use Prim.Native.Nat.{ℕ, ◌+◌}
use mathlib.Core.Path.{◌≡◌, refl}
use mathlib.Core.Bool.{Bool, true, false, cond, ◌&&◌}
use mathlib.Core.List.{List, [], ◌∷◌}
use native.Mathlib.Omega.{arith}
use lib.ListN.{length}
use Rattle.machine.specs.Event.{Event}
use Rattle.promises.specs.Account.{is_done, is_kind}
use Rattle.promises.specs.Rights.{cycle_kind}
use Rattle.frame_log.specs.Counts.{cycles_of}
use Rattle.keys.specs.Counts.{CountsCycles}

one_more_lem : (b : Bool) (n : ℕ) (e : Event) (cycles : List Event) → n ≡ length cycles → cond b 1 0 + n ≡ length (cond b (e ∷ cycles) cycles)
one_more_lem true n e cycles q = omega arith
one_more_lem false n e cycles q = omega arith

pub counts_cycles : CountsCycles
unfolding cycles_of
counts_cycles side [] = refl
counts_cycles side (e ∷ events) = one_more_lem (is_done e && is_kind (cycle_kind side) e) _ e _ (counts_cycles side events)
