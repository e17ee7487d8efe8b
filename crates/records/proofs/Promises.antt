-- The round trip, and that different windows never export alike.
use Prim.Native.Nat.{ℕ, zero, suc, ◌+◌, ◌*◌, ◌/◌, ◌%◌, ◌^◌, ◌<◌, ◌≤◌}
use mathlib.Core.Path.{◌≡◌, refl, sym, ap, ◌∙◌}
use mathlib.Core.Bool.{cond, Bool, true, false, true≢false, not, ◌||◌}
use mathlib.Core.List.{List, [], ◌∷◌, ◌++◌, append-nil}
use native.Mathlib.Nat.{add-zero, add-suc, suc-add, le_refl}
use native.Mathlib.Omega.{arith}
use lib.ListN.{length, take, drop, set, length-drop, drop_of_length-le, take-append-drop}
use lib.Seq.{sets, sets-eq, length-take-le}
use lib.Dec.{eqb, ltb}
use borrow.Author.Tests.{ne_eqb, eqb-true, lt-ltb, ltb-false}
use Rattle.machine.specs.Window.{place_of, is_window_out_of_form}
use Rattle.eight.specs.Packed.{Each}
use Rattle.records.specs.Window.{window_bytes, window_words, byte_place}
use Rattle.records.specs.Record.{front, all_bytes, text_of, texts}
use Rattle.records.specs.Export.{upper_of, upper_record, data_record, end_record, records_from, records_of, export_of}
use Rattle.records.specs.Load.{Load, Said, code_from, all_inside, run, said_from, said, stored, code_of, load_of}
use Rattle.records.specs.Promises.{RoundTrip, ExportsDiffer, RefusedUnchanged}
use Rattle.records.proofs.Bytes.{below_take, bytes_below, words_back, length_bytes}
use Rattle.records.proofs.Steps.{less, fuel-left, said_step, code_step}
use Rattle.records.proofs.Induction.{good_upper, good_end, good_data, end_text, reads_all}

-- ---- bytes from an address on

pub run_same : (a b : ℕ) (bs : List ℕ) → a % 2 ^ 32 ≡ b % 2 ^ 32 → run a bs ≡ run b bs
unfolding run
run_same a b [] e = refl
run_same a b (x ∷ bs) e = rw (e, run_same (suc a) (suc b) bs (omega arith))

pub run_append : (a : ℕ) (xs ys : List ℕ) → run a (xs ++ ys) ≡ run a xs ++ run (a + length xs) ys
unfolding run
run_append a [] ys = rw add-zero
run_append a (x ∷ xs) ys = rw (run_append (suc a) xs ys, add-suc, suc-add)

run_split : (a n : ℕ) (bs : List ℕ) → n ≤ length bs → run a (take n bs) ++ run (a + n) (drop n bs) ≡ run a bs
run_split a n bs h = sym (ap (run a) (sym (take-append-drop n bs)) ∙ run_append a (take n bs) (drop n bs) ∙ rw (length-take-le n bs h))

-- ---- what an export says

abbrev Any : ℕ → List ℕ → Type 0
Any a bs = Unit

pub said_none : (g upper : ℕ) → said_from g upper [] ≡ []
unfolding said_from
said_none zero upper = refl
said_none (suc g) upper = refl

said_end : (g upper a : ℕ) → length end_text ≤ g → said_from g upper end_text ≡ run a []
unfolding texts run
said_end g upper a h = said_step end_record [] good_end g upper h ∙ said_none (less g) upper

pub same_upper : (u : ℕ) → u / 256 * 256 + u % 256 ≡ u
same_upper u = omega arith

said_upper : (g upper u : ℕ) (rest : List ℕ) → u < 65536 → length (text_of (upper_record u) ++ rest) ≤ g → said_from g upper (text_of (upper_record u) ++ rest) ≡ said_from (less g) u rest
unfolding all_bytes front
said_upper g upper u rest low h = said_step (upper_record u) rest (good_upper u low) g upper h ∙ rw (same_upper u)

said_data : (g a n : ℕ) (bs rest : List ℕ) → n ≤ 16 → n ≤ length bs → Each 256 bs → Any a bs → length (text_of (data_record a (take n bs)) ++ rest) ≤ g
    → said_from (less g) (upper_of a) rest ≡ run (a + n) (drop n bs) → said_from g (upper_of a) (text_of (data_record a (take n bs)) ++ rest) ≡ run a bs
said_data g a n bs rest small within low ok h ih =
    said_step (data_record a (take n bs)) rest (good_data a (take n bs) (rw (length-take-le n bs within) (omega arith)) (below_take 256 n bs low)) g (upper_of a) h
    ∙ rw (ih, run_same (upper_of a * 65536 + a % 65536) a (take n bs) (omega arith)) (run_split a n bs within)

pub said_export : (start : ℕ) (words : List ℕ) → said (export_of start words) ≡ run start (window_bytes words)
unfolding export_of records_of texts
said_export start words =
    let bs = window_bytes words in
    let rest = texts (records_from (length bs) (upper_of start) start bs ++ (end_record ∷ [])) in
    let u : upper_of start < 65536 = omega arith in
    let g = length (text_of (upper_record (upper_of start)) ++ rest) in
    said_upper g 0 (upper_of start) rest u (le_refl g)
    ∙ reads_all said_from run Any said_end said_upper said_data (λ a n bs h ok. tt) (length bs) (less g) (upper_of start) start bs (le_refl (length bs)) (bytes_below words) tt
    (fuel-left (upper_record (upper_of start)) rest (good_upper (upper_of start) u) g (le_refl g))

-- ---- different windows

run_back : (a b : ℕ) (xs ys : List ℕ) → run a xs ≡ run b ys → xs ≡ ys
unfolding run
run_back a b [] [] e = refl
run_back a b [] (y ∷ ys) e = cc
run_back a b (x ∷ xs) [] e = cc
run_back a b (x ∷ xs) (y ∷ ys) e =
    let t = run_back (suc a) (suc b) xs ys (cc) in
    let s : ◌≡◌ {A = Said} (record { address = a % 2 ^ 32; byte = x }) (record { address = b % 2 ^ 32; byte = y }) = cc in
    let v : x ≡ y = ap (λ (s : Said). s.byte) s in
    cc

run_start : (a b : ℕ) (xs ys : List ℕ) → 0 < length xs → run a xs ≡ run b ys → a % 2 ^ 32 ≡ b % 2 ^ 32
unfolding run
run_start a b [] ys h e = absurd (omega arith)
run_start a b (x ∷ xs) [] h e = cc
run_start a b (x ∷ xs) (y ∷ ys) h e =
    let s : ◌≡◌ {A = Said} (record { address = a % 2 ^ 32; byte = x }) (record { address = b % 2 ^ 32; byte = y }) = cc in
    ap (λ (s : Said). s.address) s

pub exports_differ : ExportsDiffer
exports_differ start begin words others h k low small some e =
    let r = sym (said_export start words) ∙ ap said e ∙ said_export begin others in
    let same = run_back start begin (window_bytes words) (window_bytes others) r in (
      let q = run_start start begin (window_bytes words) (window_bytes others) (omega (arith, length_bytes words)) r in omega arith,
      sym (words_back words low) ∙ ap window_words same ∙ words_back others small,
    )

-- ---- the code of an export, and the window after it

-- the bytes from an address on stand in the window from byte i on
record From (start words a : ℕ) (bs : List ℕ) : Type 0 where
  pub i : ℕ
  pub here : a ≡ start + i
  pub fits : i + length bs ≤ 4 * words

place_is : (start i : ℕ) → start < 2 ^ 32 → i < 2 ^ 32 → byte_place start ((start + i) % 2 ^ 32) ≡ i
place_is start i h k = omega arith

place_of_lem : (start a i : ℕ) → start < 2 ^ 32 → i < 2 ^ 32 → a % 2 ^ 32 ≡ (start + i) % 2 ^ 32 → byte_place start a ≡ i
place_of_lem start a i h k e = let m : start % 2 ^ 32 ≡ start = omega arith in rw m (omega arith)

module _ (start words : ℕ) (low : start < 2 ^ 32) (few : words ≤ 16384) where
  pub all-inside : (n a i : ℕ) → a % 2 ^ 32 ≡ (start + i) % 2 ^ 32 → i + n ≤ 4 * words → all_inside start words a n ≡ true
  unfolding all_inside place_of
  all-inside zero a i e h = refl
  all-inside (suc n) a i e h =
      rw (place_of_lem start a i low (omega arith) e, lt-ltb (i / 4) words (omega arith), all-inside n (suc a) (suc i) (omega arith) (omega arith))

  code-end : (g upper a : ℕ) → length end_text ≤ g → code_from g start words upper end_text ≡ 0
  unfolding texts
  code-end g upper a h = code_step end_record [] good_end start words upper refl g h

  code-upper : (g upper u : ℕ) (rest : List ℕ) → u < 65536 → length (text_of (upper_record u) ++ rest) ≤ g → code_from g start words upper (text_of (upper_record u) ++ rest) ≡ code_from (less g) start words u rest
  unfolding all_bytes front
  code-upper g upper u rest small h = code_step (upper_record u) rest (good_upper u small) start words upper refl g h ∙ rw (same_upper u)

  code-data : (g a n : ℕ) (bs rest : List ℕ) → n ≤ 16 → n ≤ length bs → Each 256 bs → From start words a bs → length (text_of (data_record a (take n bs)) ++ rest) ≤ g
      → code_from (less g) start words (upper_of a) rest ≡ 0 → code_from g start words (upper_of a) (text_of (data_record a (take n bs)) ++ rest) ≡ 0
  code-data g a n bs rest small within below f h ih =
      code_step (data_record a (take n bs)) rest (good_data a (take n bs) (rw (length-take-le n bs within) (omega arith)) (below_take 256 n bs below)) start words (upper_of a)
      (rw (length-take-le n bs within, all-inside n (upper_of a * 65536 + a % 65536) f.i (let e = f.here in omega arith) (let k = f.fits in omega arith))) g h
      ∙ ih

  from-later : (a n : ℕ) (bs : List ℕ) → n ≤ length bs → From start words a bs → From start words (a + n) (drop n bs)
  from-later a n bs h f = record { i = f.i + n; here = let e = f.here in omega arith; fits = rw length-drop (let k = f.fits in omega arith) }

  pub code-export : (ws : List ℕ) → length ws ≡ words → code_from (length (export_of start ws)) start words 0 (export_of start ws) ≡ 0
  unfolding export_of records_of texts
  code-export ws same =
      let bs = window_bytes ws in
      let rest = texts (records_from (length bs) (upper_of start) start bs ++ (end_record ∷ [])) in
      let u : upper_of start < 65536 = omega arith in
      let g = length (text_of (upper_record (upper_of start)) ++ rest) in
      code-upper g 0 (upper_of start) rest u (le_refl g)
      ∙ reads_all (λ g upper text. code_from g start words upper text) (λ a bs. 0) (From start words) code-end code-upper code-data from-later (length bs) (less g) (upper_of start) start bs (le_refl (length bs)) (bytes_below ws)
      (record { i = 0; here = omega arith; fits = omega (arith, length_bytes ws) })
      (fuel-left (upper_record (upper_of start)) rest (good_upper (upper_of start) u) g (le_refl g))

-- bytes said from the window's byte i on are stored there
pub stored_run : (start i : ℕ) (w bs : List ℕ) → start < 2 ^ 32 → i + length bs ≤ 2 ^ 32 → stored start w (run (start + i) bs) ≡ sets w i bs
unfolding stored run
stored_run start i w [] h k = refl
stored_run start i w (b ∷ bs) h k =
    ap (λ (p : ℕ). stored start (set w p b) (run (suc (start + i)) bs)) (place_is start i h (omega arith))
    ∙ ap (λ (a : ℕ). stored start (set w i b) (run a bs)) (sym (add-suc start i))
    ∙ stored_run start (suc i) (set w i b) bs h (omega arith)

sets_all : (w bs : List ℕ) → length w ≡ length bs → sets w 0 bs ≡ bs
sets_all w bs e = sets-eq bs w 0 (omega arith) ∙ rw (drop_of_length-le w {i = 0 + length bs} (omega arith)) (append-nil bs)

pub good_window : (start words : ℕ) → is_window_out_of_form start words ≡ false → words ≤ 16384
unfolding is_window_out_of_form
good_window start words e = right (not (eqb (start % 4) 0)) e
  where
    right : (t : Bool) → (t || ltb 16384 words) ≡ false → words ≤ 16384
    right true q = absurd (true≢false q)
    right false q = ltb-false 16384 words q

pub good_start : (start words : ℕ) → is_window_out_of_form start words ≡ false → start % 4 ≡ 0
unfolding is_window_out_of_form
good_start start words e = left (eqb (start % 4) 0) refl e
  where
    left : (t : Bool) → eqb (start % 4) 0 ≡ t → (not t || ltb 16384 words) ≡ false → start % 4 ≡ 0
    left true f q = eqb-true (start % 4) 0 f
    left false f q = absurd (true≢false q)

pub round_trip : RoundTrip
unfolding load_of code_of
round_trip start words others low below good same =
    let few = good_window start (length words) good in
    let there = rw add-zero at (stored_run start 0 (window_bytes others) (window_bytes words) low (omega (arith, length_bytes words))) in
    let all = sets_all (window_bytes others) (window_bytes words) (length_bytes others ∙ rw same (sym (length_bytes words))) in
    rw (same, good, code-export start (length words) low few words refl, said_export start words, there, all, words_back words below)

load_code : (code : ℕ) (a b : List ℕ) → Load
load_code code a b = cond (eqb code 0) (record { code = 0; words = a }) (record { code = code; words = b })

unchanged : (code : ℕ) (a b : List ℕ) → ((load_code code a b).code ≡ 0 → ⊥) → (load_code code a b).words ≡ b
unfolding load_code
unchanged zero a b h = absurd (h refl)
unchanged (suc code) a b h = rw (ne_eqb (suc code) 0 (λ e. omega (arith, e)))

pub refused_unchanged : RefusedUnchanged
unfolding load_of load_code
refused_unchanged start words text h = unchanged (code_of start (length words) text) (window_words (stored start (window_bytes words) (said text))) words h
