use Rattle.std.proofs.Common.{◌≡◌, drop}
use Rattle.input.specs.Input.{passing}
use Rattle.input.proofs.set_line_passed.Given as goal

abbrev pub invariant-loop-next : goal.invariant-loop-next
invariant-loop-next l = passing l.fn.reading l.piece ≡ passing l.reading (drop l.next l.piece)
