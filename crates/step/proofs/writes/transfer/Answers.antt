use mathlib.Core.Path.{◌∙◌}
use Rattle.machine.specs.Access.{access_of}
use Rattle.step.proofs.Stored.{registered}
use Rattle.step.proofs.writes.transfer.Goals as goal

pub returns : goal.returns
returns g c =
    let place = g.met.L.Places in
    rw (c.written-address.ensures, c.written-count.ensures, c.ADDRESS.ensures ∙ g.L.Side.address_is, c.COUNT.ensures ∙ g.L.Side.count_is, c.ADDRESS_AT.ensures ∙ place.address_at_is, c.ADDRESS_AT-2.ensures ∙ place.address_at_is, c.COUNT_AT.ensures ∙ place.count_at_is, c.COUNT_AT-2.ensures ∙ place.count_at_is)
    (registered c.args.words.now c.told-words g.L.Side.side (access_of c.args.s))
