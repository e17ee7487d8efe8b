use Rattle.std.proofs.Common.{◌-◌, rules, refl, Result, Ok, Err, MatchResult, IsErrAnd, ◌≡◌, sym, ◌∙◌, arith, ◌<◌, length, true≢false}
use borrow.Author.Tests.{eqb-true, eqb-false, eq-eqb}
use Rattle.records.specs.Load.{kind_in, rest_of, code_from}
use Rattle.hex_load.specs.Reads.{kind_number, RecordOf}
use Rattle.hex_load.specs.declared.Refused.{Refused}
use Rattle.hex_load.proofs.Records.{code_says, is_end}
use Rattle.hex_load.proofs.Texts.{left_none, left_refused, left_ended, left_more}
use Rattle.hex_load.proofs.check_text.Goals as goal

-- a result whose error is put in another: what it was
passed : {T E D : Type 0} (r : Result T E) (q : Result T D) (P : E → D → Type 0) (x : T) → q ≡ Ok x → MatchResult r (λ y. q ≡ Ok y) (λ z. IsErrAnd q (P z)) → r ≡ Ok x
passed (Ok y) q P x e m = let f : q ≡ Ok y = m in cc
passed (Err z) q P x e m = absurd (rw e at m)

failed : {T E D : Type 0} (r : Result T E) (q : Result T D) (P : E → D → Type 0) (x : D) → q ≡ Err x → MatchResult r (λ y. q ≡ Ok y) (λ z. IsErrAnd q (P z)) → (z : E) × (r ≡ Err z) × P z x
failed (Ok y) q P x e m = let f : q ≡ Ok y = m in absurd cc
failed (Err z) q P x e m = (z, refl, rw e at m)

pub returns-in_err-head : goal.returns-in_err-head
returns-in_err-head c =
    let s = c.args.span in
    let some : 0 < length c.loop-rest.rest.now = omega (arith, eqb-false (length c.loop-rest.rest.now) 0 (sym c.loop-rest-test.ensures)) in
    let x = c.in_err-head.field-0.0 in
    let w = failed c.record_of.result c.map_err.result _ x c.in_err-head.was c.map_err.ensures.cases in
    let e = rw w.1 at c.record_of.ensures in
    let k : x ≡ record { refusal = w.0; at = length c.args.text.now - length c.loop-rest.rest.now } = let h = w.2 in search rules in
    let r = left_refused s.start s.words c.loop-rest.upper _ c.args.text.now c.loop-rest.rest.now c.loop-rest.invariant.1 some e.1 in
    let f : ◌≡◌ {A = Result (Unit {0}) Refused} c.from_residual.result (Err x) = search rules in
    rw (f, k) (r.0 ∙ e.0, λ z. e.1 (sym r.0 ∙ z), r.1, omega arith)

pub rest_of-behind-requires : goal.rest_of-behind-requires
rest_of-behind-requires c =
    let s = c.args.span in
    let b : RecordOf s.start s.words c.loop-rest.upper c.loop-rest.rest.now (Ok c.in_ok-head.head) = rw (passed c.record_of.result c.map_err.result _ c.in_ok-head.head c.in_ok-head.was c.map_err.ensures.cases) at c.record_of.ensures in
    ((code_says s.start s.words c.loop-rest.upper c.loop-rest.rest.now b.0).0, b.1)

pub upper_after-upper-requires : goal.upper_after-upper-requires
upper_after-upper-requires c =
    let s = c.args.span in
    let b : RecordOf s.start s.words c.loop-rest.upper c.loop-rest.rest.now (Ok c.in_ok-head.head) = rw (passed c.record_of.result c.map_err.result _ c.in_ok-head.head c.in_ok-head.was c.map_err.ensures.cases) at c.record_of.ensures in
    ((code_says s.start s.words c.loop-rest.upper c.loop-rest.rest.now b.0).0, b.1)

pub returns-then-is_empty : goal.returns-then-is_empty
returns-then-is_empty c =
    let s = c.args.span in
    let b : RecordOf s.start s.words c.loop-rest.upper c.loop-rest.rest.now (Ok c.in_ok-head.head) = rw (passed c.record_of.result c.map_err.result _ c.in_ok-head.head c.in_ok-head.was c.map_err.ensures.cases) at c.record_of.ensures in
    let t = c.loop-rest.rest.now in
    let some : 0 < length t = omega (arith, eqb-false (length t) 0 (sym c.loop-rest-test.ensures)) in
    let kind : kind_in t ≡ 1 = sym b.1.kinds ∙ eqb-true (kind_number c.in_ok-head.head.kind) 1 (sym (is_end c.in_ok-head.head.kind) ∙ sym c.if-eq.ensures) in
    let e = left_ended s.start s.words c.loop-rest.upper _ c.args.text.now t c.loop-rest.invariant.1 some b.0 kind in
    let none = rw c.rest_of-behind.ensures at (sym c.if-is_empty.ensures) in
    (e.0 ∙ rw none, omega (arith, e.1, eqb-true (length (rest_of t)) 0 none))

pub returns-else-is_empty : goal.returns-else-is_empty
returns-else-is_empty c =
    let s = c.args.span in
    let b : RecordOf s.start s.words c.loop-rest.upper c.loop-rest.rest.now (Ok c.in_ok-head.head) = rw (passed c.record_of.result c.map_err.result _ c.in_ok-head.head c.in_ok-head.was c.map_err.ensures.cases) at c.record_of.ensures in
    let t = c.loop-rest.rest.now in
    let some : 0 < length t = omega (arith, eqb-false (length t) 0 (sym c.loop-rest-test.ensures)) in
    let kind : kind_in t ≡ 1 = sym b.1.kinds ∙ eqb-true (kind_number c.in_ok-head.head.kind) 1 (sym (is_end c.in_ok-head.head.kind) ∙ sym c.if-eq.ensures) in
    let e = left_ended s.start s.words c.loop-rest.upper _ c.args.text.now t c.loop-rest.invariant.1 some b.0 kind in
    let none = rw c.rest_of-behind.ensures at (sym c.if-is_empty.ensures) in
    let code : code_from (length c.args.text.now) s.start s.words 0 c.args.text.now ≡ 19 = e.0 ∙ rw none in
    rw c.rest_of-behind.ensures (code, λ z. absurd (omega (arith, code, z)), e.1, omega arith)

pub loop-rest-preserved : goal.loop-rest-preserved
loop-rest-preserved c =
    let s = c.args.span in
    let b : RecordOf s.start s.words c.loop-rest.upper c.loop-rest.rest.now (Ok c.in_ok-head.head) = rw (passed c.record_of.result c.map_err.result _ c.in_ok-head.head c.in_ok-head.was c.map_err.ensures.cases) at c.record_of.ensures in
    let t = c.loop-rest.rest.now in
    let some : 0 < length t = omega (arith, eqb-false (length t) 0 (sym c.loop-rest-test.ensures)) in
    let other : kind_in t ≡ 1 → ⊥ = λ e. true≢false (sym (eq-eqb (kind_number c.in_ok-head.head.kind) 1 (b.1.kinds ∙ e)) ∙ sym (is_end c.in_ok-head.head.kind) ∙ sym c.if-eq.ensures) in
    rw (c.rest_of-behind.ensures, c.upper_after-upper.ensures)
    (_, left_more s.start s.words c.loop-rest.upper _ c.args.text.now t c.loop-rest.invariant.1 some b.0 other)

pub returns : goal.returns
returns c =
    let s = c.args.span in
    let e = left_none s.start s.words c.loop-rest.upper _ c.args.text.now c.loop-rest.rest.now c.loop-rest.invariant.1 (eqb-true (length c.loop-rest.rest.now) 0 (sym c.loop-rest-test.ensures)) in
    (e.0, λ z. absurd (omega (arith, e.0, z)), e.1, omega arith)
