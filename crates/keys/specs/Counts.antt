-- Ask 8: the numbers that `log` counts are those that `transfer` speaks of.
use Rattle.std.specs.Prelude.{◌≡◌, List, length}
use Rattle.machine.specs.Sides.{Side}
use Rattle.machine.specs.Event.{Event}
use Rattle.promises.specs.Rights.{cycle_kind}
use Rattle.promises.specs.Transfers.{done_cycles}
use Rattle.frame_log.specs.Counts.{cycles_of}

-- `counts_cycles`: of any events, as many are counted under the kind of a lane's cycles as there are done cycles of that lane
abbrev pub CountsCycles : Type 0
CountsCycles = (side : Side) (events : List Event) → cycles_of (cycle_kind side) events ≡ length (done_cycles side events)
