use mathlib.Core.Path.{sym, ◌∙◌}
use Rattle.machine.specs.Access.{access_of}
use Rattle.step.proofs.Stored.{emptied, left}
use Rattle.step.proofs.lanes.clear_fifo.Goals as goal

pub returns-then-clears_fifo : goal.returns-then-clears_fifo
returns-then-clears_fifo g c =
    let place = g.met.L.Places in
    rw (c.FILL_AT.ensures ∙ place.fill_at_is, c.RIGHT_AT.ensures ∙ place.right_at_is) (emptied c.args.words.now c.told-words g.L.Side.side (access_of c.args.s) (sym c.clears_fifo.ensures ∙ c.if-clears_fifo.true))

pub returns-else-clears_fifo : goal.returns-else-clears_fifo
returns-else-clears_fifo g c = left c.args.words.now c.told-words g.L.Side.side (access_of c.args.s) (sym c.clears_fifo.ensures ∙ c.if-clears_fifo.false)
