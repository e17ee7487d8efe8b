use Rattle.std.proofs.Common.{sym, ap, ◌∙◌}
use Rattle.input.specs.declared.Reading.TheVariants.{FirstLine}
use Rattle.input.proofs.Choosing.{chosen_by, no_set, chosen_told}
use Rattle.input.proofs.set_of.Goals as goal

pub returns-in-Number : goal.returns-in-Number
returns-in-Number c = ap chosen_by (sym (c.in-FirstLine.is ∙ ap FirstLine c.in-Number.is)) ∙ chosen_told c.set_line_passed.ensures

pub returns-in_default : goal.returns-in_default
returns-in_default c = no_set _ c.in_default.not-Number ∙ ap chosen_by (sym c.in-FirstLine.is) ∙ chosen_told c.set_line_passed.ensures

pub returns-in-Frames : goal.returns-in-Frames
returns-in-Frames c = ap chosen_by (sym c.in-Frames.is) ∙ chosen_told c.set_line_passed.ensures

pub returns-in-Over : goal.returns-in-Over
returns-in-Over c = ap chosen_by (sym c.in-Over.is) ∙ chosen_told c.set_line_passed.ensures
