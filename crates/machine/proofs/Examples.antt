-- The ten marked examples and the cases of `Neighbours`, by computing them.
use mathlib.Core.Path.{refl}
use Rattle.machine.specs.Step.{computing}
use Rattle.machine.specs.Examples.{MarkedHold}
use Rattle.machine.specs.Neighbours.{NeighboursHold}

pub marked_hold : MarkedHold
unfolding computing
marked_hold = refl

pub neighbours_hold : NeighboursHold
unfolding computing
neighbours_hold = refl
