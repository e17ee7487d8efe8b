use mathlib.Core.Path.{◌≡◌, sym, ap, ◌∙◌}
use mathlib.Core.Bool.{◌&&◌, ◌||◌}
use lib.Dec.{eqb, leb}
use lib.ListN.{length}
use Rattle.machine.specs.Sides.{party_of}
use Rattle.machine.specs.State.{held}
use Rattle.machine.specs.Access.{kind_of, is_read_by, is_write_by}
use Rattle.laws.proofs.KindNumbers.{read_by, write_by}
use Rattle.bank.specs.Bank.{state_in}
use Rattle.rights.proofs.Ends.{as_filled}
use Rattle.refusal.proofs.is_port_stuck.Goals as goal

pub returns : goal.returns
returns g c = λ mail pci addon.
    let side = g.S.Side.side in
    let s = c.args.s in
    let filled : c.lane.result.fill.0 ≡ length (held side (state_in c.args.b mail pci addon)) = cc (as_filled side c.args.b mail pci addon) in
    let write : eqb s.kind c.WRITE.result ≡ is_write_by (party_of side) (kind_of s.kind) = ap (eqb s.kind) (c.WRITE.ensures ∙ g.S.Side.write_is) ∙ sym (write_by side s.kind) in
    let read : eqb s.kind c.READ.result ≡ is_read_by (party_of g.Taker.Side.side) (kind_of s.kind) = ap (eqb s.kind) (c.READ.ensures ∙ g.Taker.Side.read_is) ∙ sym (read_by g.Taker.Side.side s.kind) in
    λ i. write i && eqb s.offset 0x20 && (c.is_full.ensures ∙ ap (leb 8) filled) i || read i && eqb s.offset 0x20 && (c.is_empty.ensures ∙ ap (λ n. eqb n 0) filled) i
