use Rattle.std.proofs.Common.{sym, ◌∙◌, arith, ◌<◌, length, Some}
use borrow.Author.Tests.{eqb-true, eqb-false}
use Rattle.records.specs.Load.{stored}
use Rattle.records.proofs.Promises.{said_none}
use Rattle.hex_load.specs.Reads.{HeadRead}
use Rattle.hex_load.proofs.Records.{length_none, record_fits, head_some}
use Rattle.hex_load.proofs.Texts.{store_good, store_record_is, store_more}
use Rattle.hex_load.proofs.store_text.Goals as goal

pub read-requires : goal.read-requires
read-requires c =
    let s = c.args.span in
    let some : 0 < length c.loop-rest.rest.now = omega (arith, eqb-false (length c.loop-rest.rest.now) 0 (sym c.loop-rest-test.ensures)) in
    omega (arith, record_fits c.loop-rest.rest.now (store_record_is s.start s.words c.loop-rest.upper _ _ _ _ c.loop-rest.rest.now c.loop-rest.invariant.1 some))

pub unwrap-head-requires : goal.unwrap-head-requires
unwrap-head-requires c =
    let s = c.args.span in
    let some : 0 < length c.loop-rest.rest.now = omega (arith, eqb-false (length c.loop-rest.rest.now) 0 (sym c.loop-rest-test.ensures)) in
    head_some c.loop-rest.rest.now c.read.result (store_record_is s.start s.words c.loop-rest.upper _ _ _ _ c.loop-rest.rest.now c.loop-rest.invariant.1 some) c.read.ensures

pub store_record-requires : goal.store_record-requires
store_record-requires c =
    let s = c.args.span in
    let some : 0 < length c.loop-rest.rest.now = omega (arith, eqb-false (length c.loop-rest.rest.now) 0 (sym c.loop-rest-test.ensures)) in
    let r : HeadRead c.loop-rest.rest.now (Some c.unwrap-head.result) = rw c.unwrap-head.ensures at c.read.ensures in
    (store_good s.start s.words c.loop-rest.upper _ _ _ _ c.loop-rest.rest.now c.loop-rest.invariant.1 some, r.0, c.loop-rest.auto.memory ∙ c.requires.1)

pub upper_after-upper-requires : goal.upper_after-upper-requires
upper_after-upper-requires c =
    let s = c.args.span in
    let some : 0 < length c.loop-rest.rest.now = omega (arith, eqb-false (length c.loop-rest.rest.now) 0 (sym c.loop-rest-test.ensures)) in
    let r : HeadRead c.loop-rest.rest.now (Some c.unwrap-head.result) = rw c.unwrap-head.ensures at c.read.ensures in
    (store_record_is s.start s.words c.loop-rest.upper _ _ _ _ c.loop-rest.rest.now c.loop-rest.invariant.1 some, r.0)

pub rest_of-rest-requires : goal.rest_of-rest-requires
rest_of-rest-requires c =
    let s = c.args.span in
    let some : 0 < length c.loop-rest.rest.now = omega (arith, eqb-false (length c.loop-rest.rest.now) 0 (sym c.loop-rest-test.ensures)) in
    let r : HeadRead c.loop-rest.rest.now (Some c.unwrap-head.result) = rw c.unwrap-head.ensures at c.read.ensures in
    (store_record_is s.start s.words c.loop-rest.upper _ _ _ _ c.loop-rest.rest.now c.loop-rest.invariant.1 some, r.0)

pub loop-rest-preserved : goal.loop-rest-preserved
loop-rest-preserved c =
    let s = c.args.span in
    let some : 0 < length c.loop-rest.rest.now = omega (arith, eqb-false (length c.loop-rest.rest.now) 0 (sym c.loop-rest-test.ensures)) in
    rw (c.rest_of-rest.ensures, c.upper_after-upper.ensures)
    (_, store_more s.start s.words c.loop-rest.upper _ _ _ _ c.loop-rest.rest.now c.loop-rest.invariant.1 some _ c.store_record.ensures)

pub returns : goal.returns
unfolding stored
returns c =
    let v = c.loop-rest.invariant in
    sym (v.1.says ∙ rw (length_none c.loop-rest.rest.now (eqb-true (length c.loop-rest.rest.now) 0 (sym c.loop-rest-test.ensures)), said_none v.0 c.loop-rest.upper))
