-- Ask 5: what ends the right of a burst.
use Rattle.std.specs.Prelude.{ℕ, Bool, not, ◌&&◌, List, [], ◌∷◌, eqb}
use Rattle.machine.specs.Words.{bit, any_of}
use Rattle.machine.specs.Sides.{Side}
use Rattle.machine.specs.State.{State, Lane, with_right, with_lanes}
use Rattle.machine.specs.Fifos.{amount}
use Rattle.machine.specs.Mcsr.{four_bit, enable_bit}
use Rattle.machine.specs.Interrupts.{abort_in}

-- its ends, each by what a step leaves, whichever step it is: the FIFO from the Add-On empty (the one from PCI full), the count zero, four no longer asked
-- for, the transfer off, an abort in INTCSR. A clear and a reset, which are steps, end it besides (`Cycles.right_after`, `State.reset_lane`)
abbrev pub ends : Side → Lane → ℕ → ℕ → List Bool
ends side l mcsr intcsr =
    eqb (amount side l.words) 0 ∷ eqb l.count 0 ∷ not (bit mcsr (four_bit side)) ∷ not (bit mcsr (enable_bit side)) ∷ abort_in intcsr ∷ []

abbrev pub ended : Side → Lane → ℕ → ℕ → Bool
ended side l mcsr intcsr = any_of (ends side l mcsr intcsr)

-- a lane whose right is left only if none of them holds
abbrev pub settled_lane : Side → Lane → ℕ → ℕ → Lane
settled_lane side l mcsr intcsr = with_right (l.right && not (ended side l mcsr intcsr)) l

unfoldable pub settled : State → State
settled st = with_lanes (λ side l. settled_lane side l st.mcsr st.intcsr) st
