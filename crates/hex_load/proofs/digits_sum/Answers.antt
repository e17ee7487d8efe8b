use Rattle.std.proofs.Common.{◌+◌, ◌/◌, ◌<◌, ◌≤◌, zero, suc, ℕ, List, Some, None, Option, ap, slice_index_or, ◌≡◌, refl, sym, ◌∙◌, arith, ◌-◌, ◌*◌, length, take, drop, length-drop}
use Rattle.std.proofs.lemmas.List.{take_all}
use Rattle.std.specs.Simd.{first_chunks}
use Rattle.eight.specs.Packed.{number_if_digits}
use lib.Seq.{drop-drop}
use Rattle.records.specs.Record.{total}
use Rattle.records.specs.Load.{bytes_in}
use Rattle.hex_digits.specs.Hex.{all_digits}
use Rattle.hex_load.specs.Reads.{sum_of}
use Rattle.hex_load.proofs.Digits.{rest_not, piece, last_piece, word_none, word_some}
use Rattle.hex_load.proofs.digits_sum.Goals as goal

-- the eights of digits, by their places
nth : (k i : ℕ) (s z : List ℕ) → i < k → slice_index_or (first_chunks 8 k s) i z ≡ take 8 (drop (8 * i) s)
nth zero i s z h = absurd (omega arith)
nth (suc k) zero s z h = refl
nth (suc k) (suc i) s z h =
    let e : 8 + 8 * i ≡ 8 * suc i = omega arith in
    nth k i (drop 8 s) z (omega arith) ∙ rw (drop-drop (8 * i) 8 s, e) refl

eights : (d : List ℕ) (runs : List (List ℕ)) (j : ℕ) (z : List ℕ) → 8 ≤ length d → runs ≡ first_chunks 8 (length (take (length d - 8) (drop 8 d)) / 8) (take (length d - 8) (drop 8 d)) → j < length d / 8 - 1
    → slice_index_or runs j z ≡ take 8 (drop (8 * (j + 1)) d)
eights d runs j z some is lt =
    let full : take (length d - 8) (drop 8 d) ≡ drop 8 d = take_all (length d - 8) (drop 8 d) (rw length-drop (omega arith)) in
    let is2 : runs ≡ first_chunks 8 (length (drop 8 d) / 8) (drop 8 d) = rw full at is in
    let few : j < length (drop 8 d) / 8 = rw length-drop (omega (arith, lt)) in
    let e : 8 + 8 * j ≡ 8 * (j + 1) = omega arith in
    ap (λ (r : List (List ℕ)). slice_index_or r j z) is2 ∙ nth (length (drop 8 d) / 8) j (drop 8 d) z few ∙ rw (drop-drop (8 * j) 8 d, e) refl

pub loop-word-init : goal.loop-word-init
unfolding sum_of all_digits bytes_in total
loop-word-init c = refl

pub returns-in_err-number : goal.returns-in_err-number
returns-in_err-number c =
    let d = c.args.digits.now in
    let j = c.loop-word.word-index in
    let n : ◌≡◌ {A = Option ℕ} None (number_if_digits (take 8 (drop (8 * (j + 1)) d))) = c.in_err-number.ensures ∙ ap number_if_digits (eights d c.as_chunks.result.0.now j _ c.requires.0 c.as_chunks.ensures.front (omega (arith, c.loop-word-test.true, c.as_chunks.ensures.front_len))) in
    c.from_residual.ensures ∙ sym (rest_not d c.requires.2 (8 * (j + 1)) (word_none (take 8 (drop (8 * (j + 1)) d)) n))

pub loop-word-preserved : goal.loop-word-preserved
loop-word-preserved c =
    let d = c.args.digits.now in
    let j = c.loop-word.word-index in
    let lt : j < length d / 8 - 1 = omega (arith, c.loop-word-test.true, c.as_chunks.ensures.front_len) in
    let n : Some c.in_ok-number.field-0 ≡ number_if_digits (take 8 (drop (8 * (j + 1)) d)) = c.in_ok-number.ensures ∙ ap number_if_digits (eights d c.as_chunks.result.0.now j _ c.requires.0 c.as_chunks.ensures.front lt) in
    let w = word_some (take 8 (drop (8 * (j + 1)) d)) c.in_ok-number.field-0 n in
    let e : j + 1 - 1 ≡ j = omega arith in
    let f : j + 1 + 1 - 1 ≡ j + 1 = omega arith in
    let i : Some c.loop-word.sum ≡ sum_of (take (8 * (j + 1 - 1)) (drop 8 d)) = rw e c.loop-word.invariant in
    rw (c.byte_sum.ensures, w.1) (rw f at (piece d (j + 1) c.loop-word.sum (omega arith) (omega (arith, lt)) i w.0))

pub returns-in_err-w : goal.returns-in_err-w
returns-in_err-w c =
    let d = c.args.digits.now in
    c.from_residual-in_err-w.ensures ∙ sym (rest_not d c.requires.2 (length d - 8) (word_none (take 8 (drop (length d - 8) d)) c.in_err-w.ensures))

pub returns-in_ok-w : goal.returns-in_ok-w
returns-in_ok-w c =
    let d = c.args.digits.now in
    let j : c.loop-word.word-index ≡ length d / 8 - 1 = omega (arith, c.loop-word-test.false, c.as_chunks.ensures.front_len) in
    let w = word_some (take 8 (drop (length d - 8) d)) c.in_ok-w.w c.in_ok-w.ensures in
    rw (c.byte_sum-then-left-gt0.ensures, w.1) (last_piece d (length d / 8) c.loop-word.sum (omega arith) refl (omega arith) (omega arith) (rw j at c.loop-word.invariant) w.0)
