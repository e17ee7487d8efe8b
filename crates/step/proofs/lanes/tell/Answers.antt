use mathlib.Core.Path.{◌∙◌}
use Rattle.step.proofs.Stored.{told}
use Rattle.step.proofs.lanes.tell.Goals as goal

pub returns : goal.returns
returns g c =
    let place = g.met.O.Places in
    rw (c.notified-event.ensures, c.INTERRUPTS_AT.ensures ∙ place.interrupts_at_is, c.INTERRUPTS_AT-2.ensures ∙ place.interrupts_at_is) (told c.args.words.now c.told-words g.O.Side.side c.args.changed)
