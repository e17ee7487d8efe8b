use Rattle.std.proofs.Common.{ℕ, length}
use Rattle.hex_load.proofs.Texts.{Left}
use Rattle.hex_load.proofs.check_text.Given as goal

abbrev pub invariant-loop-rest : goal.invariant-loop-rest
invariant-loop-rest l = (g : ℕ) × Left l.span.start l.span.words l.upper g l.text l.rest

abbrev pub decreases-loop-rest : goal.decreases-loop-rest
decreases-loop-rest l = length l.rest
