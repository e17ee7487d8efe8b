use Rattle.std.proofs.Common.{arith}
use Rattle.records.specs.Window.{window_bytes}
use Rattle.records.specs.Record.{total}
use Rattle.records.proofs.byte_sum.Goals as goal

pub returns : goal.returns
unfolding window_bytes total
returns c = rw c.to_be_bytes.ensures (omega arith)
