use Rattle.std.proofs.Common.{sym, ◌∙◌, arith, ◌+◌, ◌-◌, ◌*◌}
use Rattle.std.proofs.lemmas.List.{drop_all}
use Rattle.records.specs.Load.{bytes_in}
use Rattle.hex_load.proofs.Digits.{all_part}
use Rattle.hex_load.proofs.Window.{bytes_turn}
use Rattle.hex_load.proofs.store_digits.Goals as goal

pub digits_at-w-requires : goal.digits_at-w-requires
digits_at-w-requires c = (omega arith, all_part 8 (c.loop-from.from + 2 * c.min-m.result - 8) c.args.digits.now c.requires.4)

pub loop-from-preserved : goal.loop-from-preserved
loop-from-preserved c =
    let v = c.loop-from.invariant in
    let d = c.args.digits.now in
    let turn = bytes_turn d c.loop-from.from c.min-m.result c.loop-from.to c.with_bytes.result c.loop-from.memory c.requires.4 v.0 (omega arith) (omega arith) (omega arith) (rw c.digits_at-w.ensures at c.with_bytes.ensures) in
    (omega arith, omega arith, omega arith, v.3 ∙ turn)

pub returns : goal.returns
unfolding bytes_in
returns c =
    let v = c.loop-from.invariant in
    sym (v.3 ∙ rw (drop_all c.loop-from.from c.args.digits.now (omega arith)))
