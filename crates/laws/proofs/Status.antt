-- The status of a FIFO has three bits.
use Prim.Native.Nat.{ℕ, ◌^◌, ◌<◌}
use mathlib.Core.Bool.{Bool, true, false}
use mathlib.Core.List.{List}
use native.Mathlib.Omega.{arith}
use lib.Bits.{or_lt}
use Rattle.machine.specs.Words.{flag}
use Rattle.machine.specs.Sides.{Side}
use Rattle.machine.specs.Mcsr.{fifo_status}

flag_small : (on : Bool) (k : ℕ) → 2 ^ k < 8 → flag on k < 8
unfolding flag
flag_small true k h = h
flag_small false k h = omega arith

pub status_small : (side : Side) (ws : List ℕ) → fifo_status side ws < 8
unfolding fifo_status
status_small side ws = or_lt 3 _ _ (or_lt 3 _ _ (flag_small _ 2 (omega arith)) (flag_small _ 1 (omega arith))) (flag_small _ 0 (omega arith))
