use Rattle.std.proofs.Common.{refl}
use Rattle.hex_digits.specs.Hex.{digits}
use Rattle.tally.specs.Tally.{total_line}
use Rattle.tally.proofs.line.Goals as goal

pub returns : goal.returns
unfolding total_line digits
returns c = rw (c.copy_from_slice-2.ensures.after, c.copy_from_slice.ensures.after, c.digits.ensures, c.digits-2.ensures) refl
