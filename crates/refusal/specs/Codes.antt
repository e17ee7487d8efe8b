-- The code of a step in parts: of the form, of a read or a write, of a cycle.
use Rattle.std.specs.Prelude.{ℕ, cond, drop}
use Rattle.machine.specs.Sides.{Side}
use Rattle.machine.specs.State.{State}
use Rattle.machine.specs.Access.{Access, cycle}
use Rattle.machine.specs.Window.{is_window_out_of_form}
use Rattle.machine.specs.Code.{is_out_of_form, step_tests, cycle_tests, first_of}

-- codes 1 and 2, or done
unfoldable pub form_code : State → ℕ → ℕ → ℕ
form_code st start words = cond (is_out_of_form st) 1 (cond (is_window_out_of_form start words) 2 0)

-- 4 to 8: those past the state's, the window's and the kind's; so any window will do
abbrev pub access_code : State → Access → ℕ
access_code st x = first_of (drop 3 (step_tests st 0 0 x))

-- a cycle, which ignores offset, enables and data
abbrev pub cycle_by : Side → ℕ → ℕ → ℕ → Access
cycle_by side offset enables value = record { kind = cycle side; offset = offset; enables = enables; value = value }

-- 9 to 13: those of the cycle on a side's lane
abbrev pub cycle_code : Side → State → ℕ → ℕ → ℕ
cycle_code side st start words = first_of (cycle_tests st start words (cycle_by side 0 0 0))
