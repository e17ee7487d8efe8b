use Rattle.std.proofs.Common.{rules, sym, ◌∙◌, take, drop}
use Rattle.hex_load.proofs.Digits.{word_is, word_some}
use Rattle.hex_load.proofs.digits_at.Goals as goal

pub unwrap-requires : goal.unwrap-requires
unwrap-requires c = rw (c.word_at.ensures, word_is (take 8 (drop c.args.i c.args.text.now)) c.requires.1) (search rules)

pub returns : goal.returns
returns c = (word_some (take 8 (drop c.args.i c.args.text.now)) c.unwrap.result (sym c.unwrap.ensures ∙ c.word_at.ensures)).1
