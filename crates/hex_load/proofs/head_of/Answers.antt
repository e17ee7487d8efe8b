use Rattle.std.proofs.Common.{◌≡◌, ◌∙◌, arith, length, ◌+◌, ◌-◌, ◌<◌}
use Rattle.records.specs.Load.{digits_in}
use Rattle.hex_load.proofs.Records.{short_not, framed}
use Rattle.hex_load.proofs.head_of.Goals as goal

pub returns-then-text-lt-RECORD_LEAST : goal.returns-then-text-lt-RECORD_LEAST
returns-then-text-lt-RECORD_LEAST c = short_not c.args.text.now (omega arith)

pub returns-then-text-last : goal.returns-then-text-last
returns-then-text-last c = let r = c.in_ok-head.ensures.0 in short_not c.args.text.now (omega (arith, r.counts))

pub returns-then-text-last-2 : goal.returns-then-text-last-2
returns-then-text-last-2 c =
    let t = c.args.text.now in
    let e = c.in_ok-head.ensures in
    let last : c.length-last.result - 1 ≡ digits_in t + 1 = omega (arith, e.0.counts) in
    let long : digits_in t + 1 < length t = omega (arith, e.0.counts, c.if-text-last.false) in
    record { reads = e.0; some = e.1; fits = long; digits = framed t long e.2 ∙ rw (rw last at c.if-text-last-2.true) }

pub returns-else-text-last-2 : goal.returns-else-text-last-2
returns-else-text-last-2 c =
    let t = c.args.text.now in
    let e = c.in_ok-head.ensures in
    let last : c.length-last.result - 1 ≡ digits_in t + 1 = omega (arith, e.0.counts) in
    let long : digits_in t + 1 < length t = omega (arith, e.0.counts, c.if-text-last.false) in
    framed t long e.2 ∙ rw (rw last at c.if-text-last-2.false)
