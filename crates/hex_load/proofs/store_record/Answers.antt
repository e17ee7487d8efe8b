use Rattle.std.proofs.Common.{◌≡◌, sym, ap, ◌∙◌, arith, ℕ, List, Bool, true, ◌&&◌, ◌+◌, ◌-◌, ◌*◌, ◌^◌, ◌<◌, ◌≤◌, take, drop, length}
use Rattle.std.proofs.lemmas.List.{drop-take}
use lib.Dec.{eqb, ltb}
use lib.Seq.{drop-drop}
use borrow.Author.Tests.{eqb-true, ltb-true}
use Rattle.laws.proofs.Below.{both}
use Rattle.records.specs.Window.{window_bytes, byte_place}
use Rattle.records.specs.Load.{bytes_in, kind_in, count_in, address_in, record_code, stored}
use Rattle.hex_load.specs.declared.Head.{Head}
use Rattle.hex_load.specs.Reads.{Reads, kind_number}
use Rattle.hex_load.proofs.Digits.{there, in_long}
use Rattle.hex_load.proofs.Records.{code_says, record_fits, digits_from, content_bytes, is_data}
use Rattle.hex_load.proofs.Window.{inside_window, run_stored, said_data, said_nothing}
use Rattle.hex_load.proofs.store_record.Goals as goal

-- a data record of some bytes stands in the window
in_window : (start words upper a p : ℕ) (t : List ℕ) (h : Head) (b : Bool) → record_code start words upper t ≡ 0 → Reads t h → start < 2 ^ 32 → words ≤ 16384 → a ≡ upper * 65536 + h.offset → p ≡ byte_place start a
    → b ≡ eqb (kind_number h.kind) 0 → (b && ltb 0 h.count) ≡ true → (kind_in t ≡ 0) × (a ≡ address_in upper t) × (p + h.count ≤ 4 * words)
in_window start words upper a p t h b z r low few at is e test =
    let d = both b (ltb 0 h.count) test in
    let kind : kind_in t ≡ 0 = sym r.kinds ∙ eqb-true (kind_number h.kind) 0 (sym e ∙ d.0) in
    let address : a ≡ address_in upper t = at ∙ ap (λ (n : ℕ). upper * 65536 + n) r.offsets in
    (kind, address, inside_window start words a p h.count low is few (ltb-true 0 h.count d.1) (rw (address, r.counts) ((code_says start words upper t z).1 kind)))

pub slice_bounds-store_digits-end : goal.slice_bounds-store_digits-end
slice_bounds-store_digits-end c =
    let t = c.args.text.now in
    let s = c.args.span in
    omega (arith, record_fits t (code_says s.start s.words c.args.upper t c.requires.0).0, c.requires.1.counts)

pub store_digits-requires : goal.store_digits-requires
store_digits-requires c =
    let t = c.args.text.now in
    let s = c.args.span in
    let r = c.requires.1 in
    let is = (code_says s.start s.words c.args.upper t c.requires.0).0 in
    let n : c.length.result - 3 - 1 ≡ 8 + 2 * c.args.head.count = omega arith in
    let low : s.start < 2 ^ 32 = omega arith in
    let w = in_window s.start s.words c.args.upper c.address.result c.place-p.result t c.args.head c.eq.result c.requires.0 r low s.few c.address.ensures c.place-p.ensures (c.eq.ensures ∙ is_data c.args.head.kind) c.if-eq-head.true in
    let long = there (8 + 2 * c.args.head.count) 1 t (omega (arith, record_fits t is, r.counts)) in
    rw (n, long) (omega (arith, w.2, c.requires.2), omega (arith, s.few, c.requires.2), omega arith, omega arith, digits_from t is 0 (8 + 2 * c.args.head.count) (omega (arith, r.counts)))

pub returns-then-eq-head : goal.returns-then-eq-head
returns-then-eq-head c =
    let t = c.args.text.now in
    let s = c.args.span in
    let r = c.requires.1 in
    let is = (code_says s.start s.words c.args.upper t c.requires.0).0 in
    let n : c.length.result - 3 - 1 ≡ 8 + 2 * count_in t = omega (arith, r.counts) in
    let low : s.start < 2 ^ 32 = omega arith in
    let w = in_window s.start s.words c.args.upper c.address.result c.place-p.result t c.args.head c.eq.result c.requires.0 r low s.few c.address.ensures c.place-p.ensures (c.eq.ensures ∙ is_data c.args.head.kind) c.if-eq-head.true in
    let bs = bytes_in (take (2 * count_in t) (drop 9 t)) in
    let long : length bs ≡ count_in t = in_long (count_in t) (take (2 * count_in t) (drop 9 t)) (there (2 * count_in t) 9 t (omega (arith, record_fits t is))) in
    c.store_digits.ensures
    ∙ rw (n, drop-take 8 (2 * count_in t) (drop 1 t), drop-drop 8 1 t)
    (run_stored s.start s.words (address_in c.args.upper t) c.place-p.result 0 low (rw w.1 at c.place-p.ensures) (window_bytes c.args.memory.now) bs (rw long (omega (arith, w.2, r.counts, s.few)))
    ∙ rw (← content_bytes t is, ← said_data c.args.upper t w.0))

pub returns-else-eq-head : goal.returns-else-eq-head
unfolding stored
returns-else-eq-head c =
    let s = c.args.span in
    let r = c.requires.1 in
    let e : (c.eq.result && ltb 0 c.args.head.count) ≡ (eqb (kind_in c.args.text.now) 0 && ltb 0 (count_in c.args.text.now)) = (λ i. (c.eq.ensures ∙ is_data c.args.head.kind) i && ltb 0 c.args.head.count) ∙ (λ i. eqb (r.kinds i) 0 && ltb 0 (r.counts i)) in
    sym (ap (stored s.start (window_bytes c.args.memory.now)) (said_nothing c.args.upper c.args.text.now (sym e ∙ c.if-eq-head.false)))
