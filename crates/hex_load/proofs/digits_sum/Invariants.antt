use Rattle.std.proofs.Common.{◌≡◌, Some, ◌*◌, take, drop}
use Rattle.hex_load.specs.Reads.{sum_of}
use Rattle.hex_load.proofs.digits_sum.Given as goal

abbrev pub invariant-loop-word : goal.invariant-loop-word
invariant-loop-word l = Some l.sum ≡ sum_of (take (8 * l.word-index) (drop 8 l.digits))
