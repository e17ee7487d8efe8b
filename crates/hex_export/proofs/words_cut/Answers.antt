use Rattle.std.proofs.Common.{◌≡◌, arith, ℕ, ◌*◌, ◌/◌, ◌%◌, ◌-◌, min}
use Rattle.records.specs.Export.{cut}
use Rattle.hex_export.proofs.words_cut.Goals as goal

quarter : (border left : ℕ) → border % 4 ≡ 0 → 4 * min (min left 4) (border / 4) ≡ min (min 16 (4 * left)) border
quarter border left h = omega arith

pub returns : goal.returns
unfolding cut
returns c = rw (c.min-2.ensures, c.min.ensures) (quarter (65536 - c.args.address % 65536) c.args.left (omega (arith, c.requires.0)))
