use mathlib.Core.Path.{sym, ◌∙◌}
use lib.ListN.{length}
use Rattle.records.proofs.Promises.{good_window, good_start}
use Rattle.hex_export.proofs.Exports.{is, export_bad, export_short, export_done}
use native.Mathlib.Omega.{arith}
use Rattle.hex_export.proofs.export.Goals as goal

pub returns-then-is_window_out_of_form : goal.returns-then-is_window_out_of_form
returns-then-is_window_out_of_form c = let a = c.args in export_bad a.start a.memory.now a.out.now (sym c.is_window_out_of_form.ensures ∙ c.if-is_window_out_of_form.true)

pub text_length-n-requires : goal.text_length-n-requires
text_length-n-requires c =
    let a = c.args in
    good_window a.start (length a.memory.now) (sym c.is_window_out_of_form.ensures ∙ c.if-is_window_out_of_form.false)

pub returns-then-out-n : goal.returns-then-out-n
returns-then-out-n c =
    let a = c.args in
    export_short a.start a.memory.now a.out.now c.text_length-n.result (sym c.is_window_out_of_form.ensures ∙ c.if-is_window_out_of_form.false) c.text_length-n.ensures c.if-out-n.true

pub put_text-requires : goal.put_text-requires
put_text-requires c =
    let a = c.args in
    let good = sym c.is_window_out_of_form.ensures ∙ c.if-is_window_out_of_form.false in
    (good_start a.start (length a.memory.now) good, good_window a.start (length a.memory.now) good, omega (arith, is a.start a.memory.now a.out.now c.text_length-n.result good c.text_length-n.ensures, c.if-out-n.false))

pub returns : goal.returns
returns c =
    let a = c.args in
    export_done a.start a.memory.now a.out.now c.text_length-n.result (sym c.is_window_out_of_form.ensures ∙ c.if-is_window_out_of_form.false) c.text_length-n.ensures c.if-out-n.false c.put_text.ensures
