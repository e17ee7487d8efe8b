-- A fill is its number.
use mathlib.Core.Path.{sym, ◌∙◌}
use Rattle.fifo.specs.Unique.{FillUnique}

pub fill_unique : FillUnique
fill_unique n r q e f = λ i. record { 0 = (e ∙ sym f) i }
