use mathlib.Core.Path.{◌≡◌, ap, ◌∙◌}
use mir.Syntax.{w64}
use mir.Val.{to_z, of_z}
use Rattle.station.specs.HexCalls.{exported_number, length_result}
use Rattle.station.proofs.HexCalls.{length_fits}
use borrow.Author.Rules.{rules}
use Rattle.station.proofs.s5933_hex_length.Goals as goal

pub exported_number-requires : goal.exported_number-requires
exported_number-requires c = rw c.export_length.ensures (length_fits c.args.start c.args.count)

pub returns : goal.returns
unfolding length_result
returns c =
    let back : to_z w64 (of_z w64 c.exported_number.result) ≡ c.exported_number.result = search rules in
    back ∙ c.exported_number.ensures ∙ ap exported_number c.export_length.ensures
