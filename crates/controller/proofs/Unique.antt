-- A count is its number.
use mathlib.Core.Path.{sym, ◌∙◌}
use Rattle.controller.specs.Unique.{CountUnique}

pub count_unique : CountUnique
count_unique n r q e f = λ i. record { 0 = (e ∙ sym f) i }
