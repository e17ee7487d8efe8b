use Rattle.std.proofs.Common.{sym, ◌∙◌}
use Rattle.records.proofs.Promises.{good_window}
use Rattle.hex_load.proofs.span.Span.new.Goals as goal

pub invariant_of-result : goal.invariant_of-result
invariant_of-result c = record { few = good_window c.args.start c.args.words (sym c.is_window_out_of_form.ensures ∙ c.if-is_window_out_of_form.false) }
