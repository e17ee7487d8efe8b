use mathlib.Core.Path.{◌∙◌}
use mathlib.Core.Bool.{not, ◌||◌}
use lib.Dec.{eqb}
use lib.ListN.{get_or}
use Rattle.step.proofs.Stored.{passing, right_shown}
use Rattle.step.proofs.cycles.pass.Goals as goal

pub returns : goal.returns
returns g c =
    let l = c.args.words.now in
    let place = g.met.L.Places in
    let side = g.L.Side.side in
    rw (
      c.from.ensures,
      c.after_cycle-intcsr.ensures,
      c.after_cycle-aint.ensures,
      c.next_address-next.ensures,
      c.count_left-less.ensures,
      c.COUNT_AT.ensures ∙ place.count_at_is,
      c.COUNT_AT-2.ensures ∙ place.count_at_is,
      c.ADDRESS_AT.ensures ∙ place.address_at_is,
      c.ADDRESS_AT-2.ensures ∙ place.address_at_is,
      c.RIGHT_AT-2.ensures ∙ place.right_at_is,
    )
    (passing l c.told-words side (not (eqb (get_or l c.RIGHT_AT.result 0) 0) || c.bit.result) (rw (c.bit.ensures, c.FOUR.ensures ∙ g.L.Side.four_is, c.RIGHT_AT.ensures ∙ place.right_at_is, right_shown l side)))
