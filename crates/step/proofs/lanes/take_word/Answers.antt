use mathlib.Core.Path.{◌∙◌}
use Rattle.step.proofs.Stored.{taken, front_word}
use Rattle.step.proofs.lanes.take_word.Goals as goal

pub returns-clause-state : goal.returns-clause-state
returns-clause-state g c =
    let place = g.met.L.Places in
    rw (c.past.ensures, c.one_less-less.ensures, c.HEAD_AT.ensures ∙ place.head_at_is, c.HEAD_AT-2.ensures ∙ place.head_at_is, c.FILL_AT.ensures ∙ place.fill_at_is, c.FILL_AT-2.ensures ∙ place.fill_at_is) (taken c.args.words.now c.told-words g.L.Side.side)

pub returns-clause-word : goal.returns-clause-word
returns-clause-word g c = λ some.
    let place = g.met.L.Places in
    rw (c.front_place.ensures, c.HEAD_AT.ensures ∙ place.head_at_is, c.FIFO_AT.ensures ∙ place.fifo_at_is) (front_word c.args.words.now c.told-words g.L.Side.side some)
