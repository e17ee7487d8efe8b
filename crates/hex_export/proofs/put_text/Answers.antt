use Rattle.std.proofs.Common.{◌≡◌, refl, sym, ap, ◌∙◌, arith, ℕ, List, [], ◌++◌, append_assoc, le_refl, ◌+◌, ◌-◌, ◌*◌, ◌/◌, ◌%◌, ◌<◌, ◌≤◌, length, take, drop}
use Rattle.records.specs.Window.{window_bytes}
use Rattle.records.specs.Export.{upper_of, end_record, cut}
use Rattle.std.proofs.Common.{length-drop}
use Rattle.std.proofs.lemmas.List.{length-take-le}
use Rattle.records.proofs.Read.{length_text}
use Rattle.output.proofs.Wrote.{wrote_none, wrote_then}
use Rattle.hex_export.proofs.Bytes.{cut_same}
use Rattle.hex_export.proofs.Texts.{text_start, length_start, length_upper, WordTurn, word_turn, text_last}
use Rattle.hex_export.proofs.put_text.Goals as goal

pub put_upper-at-requires : goal.put_upper-at-requires
put_upper-at-requires c =
    let e : c.args.start / 65536 ≡ upper_of c.args.start = omega arith in
    omega (arith, c.requires.2, length_start c.args.start c.args.memory.now (c.args.start / 65536) e)

pub loop-i-init : goal.loop-i-init
loop-i-init c =
    let a = c.args in
    let e : a.start / 65536 ≡ upper_of a.start = omega arith in (
      length (window_bytes a.memory.now),
      [],
      omega arith,
      le_refl _,
      wrote_none,
      refl,
      omega (arith, c.requires.2, c.put_upper-at.ensures.next, length_upper (a.start / 65536), c.put_upper-at.auto.out, length_start a.start a.memory.now (a.start / 65536) e),
    )

pub words_cut-n-requires : goal.words_cut-n-requires
words_cut-n-requires c = (omega (arith, c.requires.0), omega (arith, c.requires.1))

-- a turn, by the address modulo 2^32
turn_at : (start : ℕ) (words : List ℕ) (i n most upper address : ℕ) → i < length words → length (drop (4 * i) (window_bytes words)) ≤ most → address ≡ (start + 4 * i) % 4294967296
    → 4 * n ≡ cut address (4 * (length words - i)) → WordTurn start words i n most upper (address / 65536)
turn_at start words i n most upper address more few is cuts =
    let e : cut address (4 * (length words - i)) ≡ cut (start + 4 * i) (4 * (length words - i)) = rw is (cut_same (start + 4 * i) (4 * (length words - i))) in
    word_turn start words i n most upper (address / 65536) more few (omega arith) (cuts ∙ e)

pub put_changed-p-requires : goal.put_changed-p-requires
put_changed-p-requires c =
    let T = turn_at c.args.start c.args.memory.now c.loop-i.i c.words_cut-n.result c.loop-i.invariant.0 c.loop-i.upper ((c.args.start + 4 * c.loop-i.i) % 4294967296) c.loop-i-test.true c.loop-i.invariant.3 refl c.words_cut-n.ensures in
    omega (arith, T.whole, c.loop-i.invariant.6)

pub overflow_add-i : goal.overflow_add-i
overflow_add-i c =
    let T = turn_at c.args.start c.args.memory.now c.loop-i.i c.words_cut-n.result c.loop-i.invariant.0 c.loop-i.upper ((c.args.start + 4 * c.loop-i.i) % 4294967296) c.loop-i-test.true c.loop-i.invariant.3 refl c.words_cut-n.ensures in
    omega (arith, T.within, c.requires.1)

pub slice_bounds-put_data-end : goal.slice_bounds-put_data-end
slice_bounds-put_data-end c =
    let T = turn_at c.args.start c.args.memory.now c.loop-i.i c.words_cut-n.result c.loop-i.invariant.0 c.loop-i.upper ((c.args.start + 4 * c.loop-i.i) % 4294967296) c.loop-i-test.true c.loop-i.invariant.3 refl c.words_cut-n.ensures in
    omega (arith, T.within)

pub put_data-at-requires : goal.put_data-at-requires
put_data-at-requires c =
    let T = turn_at c.args.start c.args.memory.now c.loop-i.i c.words_cut-n.result c.loop-i.invariant.0 c.loop-i.upper ((c.args.start + 4 * c.loop-i.i) % 4294967296) c.loop-i-test.true c.loop-i.invariant.3 refl c.words_cut-n.ensures in
    let n : c.loop-i.i + c.words_cut-n.result - c.loop-i.i ≡ c.words_cut-n.result = omega arith in
    let long : length (take c.words_cut-n.result (drop c.loop-i.i c.args.memory.now)) ≡ c.words_cut-n.result = length-take-le c.words_cut-n.result (drop c.loop-i.i c.args.memory.now) (rw length-drop (omega (arith, T.within))) in
    rw (n, long) (omega (arith, T.whole, c.loop-i.invariant.6, c.put_changed-p.ensures.next, c.put_changed-p.auto.out), T.few)

pub loop-i-smaller : goal.loop-i-smaller
loop-i-smaller c =
    let T = turn_at c.args.start c.args.memory.now c.loop-i.i c.words_cut-n.result c.loop-i.invariant.0 c.loop-i.upper ((c.args.start + 4 * c.loop-i.i) % 4294967296) c.loop-i-test.true c.loop-i.invariant.3 refl c.words_cut-n.ensures in
    omega (arith, T.some, c.loop-i-test.true)

pub loop-i-preserved : goal.loop-i-preserved
loop-i-preserved c =
    let v = c.loop-i.invariant in
    let T = turn_at c.args.start c.args.memory.now c.loop-i.i c.words_cut-n.result c.loop-i.invariant.0 c.loop-i.upper ((c.args.start + 4 * c.loop-i.i) % 4294967296) c.loop-i-test.true c.loop-i.invariant.3 refl c.words_cut-n.ensures in
    let n : c.loop-i.i + c.words_cut-n.result - c.loop-i.i ≡ c.words_cut-n.result = omega arith in
    let offset : (c.args.start + 4 * c.loop-i.i) % 4294967296 % 65536 % 65536 ≡ (c.args.start + 4 * c.loop-i.i) % 65536 = omega arith in
    let wrote = rw (n, offset) at c.put_data-at.ensures in (
      _,
      _,
      T.within,
      T.left,
      wrote_then v.4 (wrote_then c.put_changed-p.ensures wrote),
      v.5 ∙ ap (λ (x : List ℕ). v.1 ++ x) T.text ∙ sym (append_assoc v.1 _ _),
      omega (arith, T.whole, T.long, v.6, c.put_changed-p.ensures.next, wrote.next, c.put_changed-p.auto.out, c.put_data-at.auto.out),
    )

pub put_end-requires : goal.put_end-requires
put_end-requires c =
    let a = c.args in
    let v = c.loop-i.invariant in
    let e = ap length (text_last a.start a.memory.now (4 * c.loop-i.i) v.0 c.loop-i.upper (omega (arith, c.loop-i-test.false))) ∙ length_text end_record in
    omega (arith, v.6, e)

pub returns : goal.returns
returns c =
    let a = c.args in
    let v = c.loop-i.invariant in
    let first : a.start / 65536 ≡ upper_of a.start = omega arith in
    let e = v.5 ∙ ap (λ (x : List ℕ). v.1 ++ x) (text_last a.start a.memory.now (4 * c.loop-i.i) v.0 c.loop-i.upper (omega (arith, c.loop-i-test.false))) in
    rw (text_start a.start a.memory.now (a.start / 65536) first, e)
    (wrote_then c.put_upper-at.ensures (wrote_then v.4 c.put_end.ensures))
