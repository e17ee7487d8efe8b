use Rattle.std.proofs.Common.{arith, ◌∙◌, drop, length, ◌-◌, length-drop}
use Rattle.std.proofs.lemmas.List.{take_all}
use Rattle.hex_load.proofs.Records.{record_ends}
use Rattle.hex_load.proofs.rest_of.Goals as goal

pub slice_bounds-result-count : goal.slice_bounds-result-count
slice_bounds-result-count c = (record_ends c.args.text.now c.args.head c.length.result c.requires.0 c.requires.1 c.length.ensures).0

pub returns : goal.returns
returns c =
    let t = c.args.text.now in
    let e = record_ends t c.args.head c.length.result c.requires.0 c.requires.1 c.length.ensures in
    take_all (length t - c.length.result) (drop c.length.result t) (rw length-drop (omega arith)) ∙ e.1

pub slice_bounds-result-start : goal.slice_bounds-result-start
slice_bounds-result-start c = omega (arith, (record_ends c.args.text.now c.args.head c.length.result c.requires.0 c.requires.1 c.length.ensures).0)
