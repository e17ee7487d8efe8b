use mathlib.Core.Path.{◌≡◌, sym, ◌∙◌}
use Rattle.step.proofs.reads.read.Goals as goal

pub returns-then-s-eq-FIFO_PORT : goal.returns-then-s-eq-FIFO_PORT
returns-then-s-eq-FIFO_PORT g c = let k : c.READ.result ≡ c.args.s.kind = c.READ.ensures ∙ g.S.Side.read_is ∙ sym c.requires in rw k at c.pop.ensures

pub returns : goal.returns
returns g c = let k : c.READ.result ≡ c.args.s.kind = c.READ.ensures ∙ g.S.Side.read_is ∙ sym c.requires in rw k at c.look.ensures
