use Rattle.std.proofs.Common.{◌≡◌, ◌+◌, ◌*◌, ◌-◌, ◌≤◌, length, drop}
use Rattle.std.proofs.lemmas.List.Edits.{sets}
use Rattle.records.specs.Window.{window_bytes}
use Rattle.records.specs.Load.{bytes_in}
use Rattle.hex_load.proofs.store_digits.Given as goal

abbrev pub invariant-loop-from : goal.invariant-loop-from
invariant-loop-from l =
    (8 ≤ l.from) × (l.from ≤ length l.digits) × (2 * l.to + 8 ≡ 2 * l.p + l.from)
    × (sets (window_bytes l.initial.memory) l.p (bytes_in (drop 8 l.digits)) ≡ sets (window_bytes l.memory) l.to (bytes_in (drop l.from l.digits)))

abbrev pub decreases-loop-from : goal.decreases-loop-from
decreases-loop-from l = length l.digits - l.from
