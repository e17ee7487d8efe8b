use mathlib.Core.Path.{◌≡◌, subst, sym, ap, ◌∙◌}
use mir.Syntax.{w64}
use mir.Val.{to_z, of_z}
use Rattle.hex_export.specs.Results.{Export}
use Rattle.station.specs.HexCalls.{Fits, exported_number}
use Rattle.station.proofs.HexCalls.{export_fits}
use borrow.Author.Rules.{rules}
use Rattle.station.proofs.s5933_hex_export.Goals as goal

pub exported_number-requires : goal.exported_number-requires
exported_number-requires c =
    let a = c.args in
    subst Fits (sym (ap (λ (r : Export). r.answer) c.export.ensures)) (export_fits a.start a.words.now a.output.now)

pub returns : goal.returns
returns c =
    let back : to_z w64 (of_z w64 c.exported_number.result) ≡ c.exported_number.result = search rules in
    record {
      result = back ∙ c.exported_number.ensures ∙ ap (λ (r : Export). exported_number r.answer) c.export.ensures;
      written = ap (λ (r : Export). r.out) c.export.ensures;
    }
