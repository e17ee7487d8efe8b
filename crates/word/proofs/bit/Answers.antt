use mathlib.Core.Path.{sym, ◌∙◌}
use native.Mathlib.Omega.{arith}
use borrow.Author.Tests.{le-ltb}
use Rattle.laws.proofs.Bits.{bit_beyond}
use Rattle.word.proofs.bit.Goals as goal

pub returns-else-k-lt-BITS : goal.returns-else-k-lt-BITS
returns-else-k-lt-BITS c = le-ltb c.args.k 32 (omega arith) ∙ sym (bit_beyond 32 c.args.k c.args.x (omega arith) (omega arith))
