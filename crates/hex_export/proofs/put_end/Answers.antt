use Rattle.hex_digits.specs.Hex.{hex_digits, digit_of, digits}
use Rattle.records.specs.Record.{total, front, check, all_bytes, hexes, text_of}
use Rattle.hex_export.proofs.put_end.Goals as goal

pub returns : goal.returns
unfolding hex_digits digit_of digits total front check all_bytes hexes text_of
returns c = c.put.ensures
