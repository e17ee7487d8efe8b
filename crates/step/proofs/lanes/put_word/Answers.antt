use mathlib.Core.Path.{◌∙◌}
use Rattle.step.proofs.Stored.{fed}
use Rattle.step.proofs.lanes.put_word.Goals as goal

pub returns : goal.returns
returns g c = λ room.
    let place = g.met.L.Places in
    rw (c.free_place-free.ensures, c.one_more.ensures, c.FIFO_AT.ensures ∙ place.fifo_at_is, c.HEAD_AT.ensures ∙ place.head_at_is, c.FILL_AT.ensures ∙ place.fill_at_is, c.FILL_AT-2.ensures ∙ place.fill_at_is)
    (fed c.args.words.now c.told-words g.L.Side.side c.args.x room)
