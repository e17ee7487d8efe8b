use mathlib.Core.Path.{sym, ◌∙◌}
use Rattle.records.proofs.Promises.{good_window}
use Rattle.hex_export.proofs.Exports.{length_bad, length_good}
use Rattle.hex_export.proofs.export_length.Goals as goal

pub returns-then-is_window_out_of_form : goal.returns-then-is_window_out_of_form
returns-then-is_window_out_of_form c = let a = c.args in length_bad a.start a.words (sym c.is_window_out_of_form.ensures ∙ c.if-is_window_out_of_form.true)

pub text_length-requires : goal.text_length-requires
text_length-requires c =
    let a = c.args in
    good_window a.start a.words (sym c.is_window_out_of_form.ensures ∙ c.if-is_window_out_of_form.false)

pub returns : goal.returns
returns c =
    let a = c.args in
    length_good a.start a.words c.text_length.result (sym c.is_window_out_of_form.ensures ∙ c.if-is_window_out_of_form.false) c.text_length.ensures
