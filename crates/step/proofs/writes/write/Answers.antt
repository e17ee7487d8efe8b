use mathlib.Core.Path.{◌≡◌, sym, ◌∙◌}
use Rattle.step.proofs.writes.write.Goals as goal

pub returns-then-s-eq-FIFO_PORT : goal.returns-then-s-eq-FIFO_PORT
returns-then-s-eq-FIFO_PORT g c = let k : c.WRITE.result ≡ c.args.s.kind = c.WRITE.ensures ∙ g.S.Side.write_is ∙ sym c.requires in rw k at c.push.ensures

pub returns-then-is_mailbox : goal.returns-then-is_mailbox
returns-then-is_mailbox g c = let k : c.WRITE.result ≡ c.args.s.kind = c.WRITE.ensures ∙ g.S.Side.write_is ∙ sym c.requires in rw k at c.mail.ensures

pub returns : goal.returns
returns g c = let k : c.WRITE.result ≡ c.args.s.kind = c.WRITE.ensures ∙ g.S.Side.write_is ∙ sym c.requires in rw k at c.store.ensures
