use Rattle.std.proofs.Common.{rules, ◌≡◌, sym, ◌∙◌, arith, ℕ, List, Bool, Result, Err, ◌&&◌, not, ◌-◌, ◌+◌, ◌*◌}
use lib.Dec.{eqb}
use Rattle.machine.specs.declared.codes.Refusal.{Refusal}
use Rattle.machine.specs.declared.codes.Refusal.TheVariants.{NotAHexRecord}
use Rattle.records.specs.Load.{digits_in, kind_in, count_in, address_in, all_inside}
use Rattle.hex_load.specs.declared.Head.{Head}
use Rattle.hex_load.specs.Reads.{Reads, Begins, kind_number}
use Rattle.hex_load.proofs.Records.{not_record, bad_sum, last_code, sum_no, sum_says, is_data}
use Rattle.hex_load.proofs.record_of.Goals as goal

pub returns-in_err-head : goal.returns-in_err-head
returns-in_err-head c =
    let n = c.in_err-head.ensures in
    let v : ◌≡◌ {A = Result Head Refusal} (Err c.in_err-head.field-0.0) (Err NotAHexRecord) = rw n.ok_part at n.value in
    let r : c.in_err-head.field-0.0 ≡ NotAHexRecord = cc in
    let f : ◌≡◌ {A = Result Head Refusal} c.from_residual.result (Err c.in_err-head.field-0.0) = search rules in
    let e = not_record c.args.span.start c.args.span.words c.args.upper c.args.text.now (rw n.ok_part at c.head_of.ensures) in
    rw (f, r) (e, λ z. absurd (omega (arith, e, z)))

pub returns-in_err-rest : goal.returns-in_err-rest
returns-in_err-rest c =
    let t = c.args.text.now in
    let b : Begins c.args.text.now c.in_ok-head.head = rw c.in_ok-head.ensures.ok_part at c.head_of.ensures in
    let d : c.length.result - 1 - 1 ≡ digits_in t = omega (arith, b.reads.counts) in
    let n = c.in_err-rest.ensures in
    let v : ◌≡◌ {A = Result ℕ Refusal} (Err c.in_err-rest.field-0.0) (Err NotAHexRecord) = rw n.ok_part at n.value in
    let r : c.in_err-rest.field-0.0 ≡ NotAHexRecord = cc in
    let f : ◌≡◌ {A = Result Head Refusal} c.from_residual-in_err-rest.result (Err c.in_err-rest.field-0.0) = search rules in
    let e = not_record c.args.span.start c.args.span.words c.args.upper t (sum_no t c.in_ok-head.head b (rw d at (sym n.ok_part ∙ c.digits_sum.ensures))) in
    rw (f, r) (e, λ z. absurd (omega (arith, e, z)))

pub returns-then-sum-rest-ne0 : goal.returns-then-sum-rest-ne0
returns-then-sum-rest-ne0 c =
    let t = c.args.text.now in
    let b : Begins c.args.text.now c.in_ok-head.head = rw c.in_ok-head.ensures.ok_part at c.head_of.ensures in
    let n : c.length.result - 1 - 1 ≡ digits_in t = omega (arith, b.reads.counts) in
    let s = sum_says t c.in_ok-head.head b c.in_ok-rest.rest (rw n at (sym c.in_ok-rest.ensures.ok_part ∙ c.digits_sum.ensures)) in
    let e = bad_sum c.args.span.start c.args.span.words c.args.upper t s.0 (λ z. c.if-sum-rest-ne0.true (rw c.sum.ensures (s.1 ∙ z))) in
    (e, λ z. absurd (omega (arith, e, z)))

-- the last test, by what the record has
tested : (start words upper address : ℕ) (t : List ℕ) (h : Head) (b i : Bool) → Reads t h → address ≡ upper * 65536 + h.offset → b ≡ eqb (kind_number h.kind) 0 → i ≡ all_inside start words address h.count
    → (b && not i) ≡ (eqb (kind_in t) 0 && not (all_inside start words (address_in upper t) (count_in t)))
tested start words upper address t h b i r a e f =
    (λ j. e j && not (f j)) ∙ (λ j. eqb (r.kinds j) 0 && not (all_inside start words ((a ∙ (λ k. upper * 65536 + r.offsets k)) j) (r.counts j)))

pub returns-then-eq-has_all : goal.returns-then-eq-has_all
returns-then-eq-has_all c =
    let t = c.args.text.now in
    let span = c.args.span in
    let h = c.in_ok-head.head in
    let b : Begins c.args.text.now c.in_ok-head.head = rw c.in_ok-head.ensures.ok_part at c.head_of.ensures in
    let n : c.length.result - 1 - 1 ≡ digits_in t = omega (arith, b.reads.counts) in
    let s = sum_says t h b c.in_ok-rest.rest (rw n at (sym c.in_ok-rest.ensures.ok_part ∙ c.digits_sum.ensures)) in
    let e = last_code span.start span.words c.args.upper t s.0 (sym s.1 ∙ (rw c.sum.ensures at c.if-sum-rest-ne0.false)) ∙ rw (sym (tested span.start span.words c.args.upper c.address.result t h c.eq.result c.has_all.result b.reads c.address.ensures (c.eq.ensures ∙ is_data h.kind) c.has_all.ensures) ∙ c.if-eq-has_all.true) in
    (e, λ z. absurd (omega (arith, e, z)))

pub returns : goal.returns
returns c =
    let t = c.args.text.now in
    let span = c.args.span in
    let h = c.in_ok-head.head in
    let b : Begins c.args.text.now c.in_ok-head.head = rw c.in_ok-head.ensures.ok_part at c.head_of.ensures in
    let n : c.length.result - 1 - 1 ≡ digits_in t = omega (arith, b.reads.counts) in
    let s = sum_says t h b c.in_ok-rest.rest (rw n at (sym c.in_ok-rest.ensures.ok_part ∙ c.digits_sum.ensures)) in
    (last_code span.start span.words c.args.upper t s.0 (sym s.1 ∙ (rw c.sum.ensures at c.if-sum-rest-ne0.false)) ∙ rw (sym (tested span.start span.words c.args.upper c.address.result t h c.eq.result c.has_all.result b.reads c.address.ensures (c.eq.ensures ∙ is_data h.kind) c.has_all.ensures) ∙ c.if-eq-has_all.false), b.reads)
