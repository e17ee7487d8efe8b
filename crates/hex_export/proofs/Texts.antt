-- The text of an export, record by record.
use Prim.Native.Nat.{ℕ, zero, suc, ◌+◌, ◌-◌, ◌*◌, ◌<◌, ◌≤◌}
use mathlib.Core.Path.{◌≡◌, refl, sym, ap, ◌∙◌}
use mathlib.Core.List.{List, [], ◌∷◌, ◌++◌, append_assoc, append-nil}
use native.Mathlib.Omega.{arith}
use native.Mathlib.Nat.{add-zero, add_assoc}
use lib.ListN.{length, take, drop, length-append, length-drop, drop_of_length-le}
use lib.Seq.{drop-drop, length-take-le}
use Rattle.records.proofs.Bytes.{length_bytes}
use Rattle.records.proofs.Induction.{cut_is}
use borrow.Author.Tests.{eq-eqb, ne_eqb}
use Rattle.records.specs.Window.{window_bytes}
use Rattle.records.specs.Record.{Record, text_of, texts}
use Rattle.records.specs.Export.{upper_of, upper_record, data_record, end_record, changed, cut, records_from, records_of, export_of}
use Rattle.records.proofs.Read.{length_text}
use Rattle.records.proofs.Steps.{less}
use Rattle.hex_export.proofs.Bytes.{bytes_part}

-- the text of what is left, with the end record
abbrev pub rest_text : ℕ → ℕ → ℕ → List ℕ → List ℕ
rest_text most upper a bs = texts (records_from most upper a bs ++ (end_record ∷ []))

texts_append : (rs qs : List Record) → texts (rs ++ qs) ≡ texts rs ++ texts qs
unfolding texts
texts_append [] qs = refl
texts_append (r ∷ rs) qs = rw (texts_append rs qs, append_assoc)

pub first_text : (start : ℕ) (words : List ℕ) → export_of start words ≡ text_of (upper_record (upper_of start)) ++ rest_text (length (window_bytes words)) (upper_of start) start (window_bytes words)
unfolding export_of records_of texts
first_text start words = refl

turned : (cs : List Record) (d : Record) (more : List Record) → texts ((cs ++ (d ∷ more)) ++ (end_record ∷ [])) ≡ (texts cs ++ text_of d) ++ texts (more ++ (end_record ∷ []))
unfolding texts
turned cs d more = rw append_assoc (texts_append cs (d ∷ (more ++ (end_record ∷ []))) ∙ sym (append_assoc (texts cs) (text_of d) (texts (more ++ (end_record ∷ [])))))

pub turn_text : (most upper a n : ℕ) (bs : List ℕ) → 0 < length bs → length bs ≤ most → n ≡ cut a (length bs)
    → rest_text most upper a bs ≡ (texts (changed upper (upper_of a)) ++ text_of (data_record a (take n bs))) ++ rest_text (less most) (upper_of a) (a + n) (drop n bs)
unfolding records_from
turn_text zero upper a n bs h k e = absurd (omega arith)
turn_text (suc most) upper a n [] h k e = absurd (omega arith)
turn_text (suc most) upper a n (b ∷ bs) h k e = rw e (turned (changed upper (upper_of a)) (data_record a (take (cut a (length (b ∷ bs))) (b ∷ bs))) (records_from most (upper_of a) (a + cut a (length (b ∷ bs))) (drop (cut a (length (b ∷ bs))) (b ∷ bs))))

pub last_text : (most upper a : ℕ) → rest_text most upper a [] ≡ text_of end_record
unfolding records_from texts
last_text zero upper a = append-nil (text_of end_record)
last_text (suc most) upper a = append-nil (text_of end_record)

pub same_none : (upper next : ℕ) → next ≡ upper → texts (changed upper next) ≡ []
unfolding changed texts
same_none upper next e = rw (eq-eqb next upper e)

pub other_one : (upper next : ℕ) → (next ≡ upper → ⊥) → texts (changed upper next) ≡ text_of (upper_record next)
unfolding changed texts
other_one upper next e = rw (ne_eqb next upper e) (append-nil (text_of (upper_record next)))

pub length_upper : (u : ℕ) → length (text_of (upper_record u)) ≡ 16
length_upper u = length_text (upper_record u)

-- ---- the loops over a window

-- a turn, after i bytes: n bytes more, and what is left
pub record Turn (start : ℕ) (words : List ℕ) (i n most upper next : ℕ) : Type 0 where
  pub some : 0 < n
  pub few : n ≤ 16
  pub within : i + n ≤ 4 * length words
  pub left : length (drop (i + n) (window_bytes words)) ≤ less most
  pub long : length (text_of (data_record (start + i) (take n (drop i (window_bytes words))))) ≡ 2 * n + 12
  pub text : rest_text most upper (start + i) (drop i (window_bytes words))
      ≡ (texts (changed upper next) ++ text_of (data_record (start + i) (take n (drop i (window_bytes words))))) ++ rest_text (less most) next (start + (i + n)) (drop (i + n) (window_bytes words))
  pub whole : length (rest_text most upper (start + i) (drop i (window_bytes words)))
      ≡ length (texts (changed upper next)) + (2 * n + 12) + length (rest_text (less most) next (start + (i + n)) (drop (i + n) (window_bytes words)))

module _ (start : ℕ) (words : List ℕ) where
  pub text_start : (upper : ℕ) → upper ≡ upper_of start → export_of start words ≡ text_of (upper_record upper) ++ rest_text (length (window_bytes words)) upper (start + 0) (drop 0 (window_bytes words))
  text_start upper e = rw (e, add-zero) (first_text start words)

  pub length_start : (upper : ℕ) → upper ≡ upper_of start → length (export_of start words) ≡ 16 + length (rest_text (length (window_bytes words)) upper (start + 0) (drop 0 (window_bytes words)))
  length_start upper e = ap length (text_start upper e) ∙ rw (length-append, length_upper)

  pub text_last : (i most upper : ℕ) → 4 * length words ≤ i → rest_text most upper (start + i) (drop i (window_bytes words)) ≡ text_of end_record
  text_last i most upper h = rw (drop_of_length-le (window_bytes words) {i = i} (omega (arith, length_bytes words))) (last_text most upper (start + i))

  module _ (i n size most upper next : ℕ) (more : i < size) (all : size ≡ 4 * length words) (few : length (drop i (window_bytes words)) ≤ most)
      (new : next ≡ upper_of (start + i)) (cuts : n ≡ cut (start + i) (size - i)) where
    left : length (drop i (window_bytes words)) ≡ size - i
    left = length-drop i (window_bytes words) ∙ rw (length_bytes words, all)

    bounds : (0 < n) × (n ≤ 16) × (i + n ≤ size)
    bounds = let c = cut_is (start + i) (size - i) (omega arith) in (omega arith, omega arith, omega arith)

    less_left : (m : ℕ) → length (drop i (window_bytes words)) ≤ m → length (drop (i + n) (window_bytes words)) ≤ less m
    less_left zero k = absurd (omega (arith, left))
    less_left (suc m) k = omega (arith, bounds.0, left, length-drop (i + n) (window_bytes words), length_bytes words)

    length_data : length (text_of (data_record (start + i) (take n (drop i (window_bytes words))))) ≡ 2 * n + 12
    length_data = length_text (data_record (start + i) (take n (drop i (window_bytes words)))) ∙ rw (length-take-le n (drop i (window_bytes words)) (omega (arith, left, bounds.2)))

    pub turn : Turn start words i n most upper next
    turn =
        let e : rest_text most upper (start + i) (drop i (window_bytes words))
        ≡ (texts (changed upper next) ++ text_of (data_record (start + i) (take n (drop i (window_bytes words))))) ++ rest_text (less most) next (start + (i + n)) (drop (i + n) (window_bytes words))
        = turn_text most upper (start + i) n (drop i (window_bytes words)) (omega (arith, left)) few (rw left cuts) ∙ rw (← new, drop-drop n i (window_bytes words), add_assoc start i n) in
        record {
          some = bounds.0;
          few = bounds.1;
          within = omega (arith, bounds.2);
          left = less_left most few;
          long = length_data;
          text = e;
          whole = ap length e ∙ rw (length-append, length-append, length_data);
        }

-- the same by words
pub record WordTurn (start : ℕ) (words : List ℕ) (i n most upper next : ℕ) : Type 0 where
  pub some : 0 < n
  pub few : n ≤ 4
  pub within : i + n ≤ length words
  pub left : length (drop (4 * (i + n)) (window_bytes words)) ≤ less most
  pub text : rest_text most upper (start + 4 * i) (drop (4 * i) (window_bytes words))
      ≡ (texts (changed upper next) ++ text_of (data_record (start + 4 * i) (window_bytes (take n (drop i words))))) ++ rest_text (less most) next (start + 4 * (i + n)) (drop (4 * (i + n)) (window_bytes words))
  pub long : length (text_of (data_record (start + 4 * i) (window_bytes (take n (drop i words))))) ≡ 8 * n + 12
  pub whole : length (rest_text most upper (start + 4 * i) (drop (4 * i) (window_bytes words)))
      ≡ length (texts (changed upper next)) + (8 * n + 12) + length (rest_text (less most) next (start + 4 * (i + n)) (drop (4 * (i + n)) (window_bytes words)))

pub word_turn : (start : ℕ) (words : List ℕ) (i n most upper next : ℕ) → i < length words → length (drop (4 * i) (window_bytes words)) ≤ most → next ≡ upper_of (start + 4 * i)
    → 4 * n ≡ cut (start + 4 * i) (4 * (length words - i)) → WordTurn start words i n most upper next
word_turn start words i n most upper next more few new cuts =
    let size : 4 * (length words - i) ≡ 4 * length words - 4 * i = omega arith in
    let t = turn start words (4 * i) (4 * n) (4 * length words) most upper next (omega arith) refl few new (rw size at cuts) in
    let q : 4 * i + 4 * n ≡ 4 * (i + n) = omega arith in
    let e = rw (bytes_part i n words, q) at t.text in
    let long = rw (bytes_part i n words) at t.long in
    let a = t.some in
    let b = t.few in
    let w = t.within in
    record {
      some = omega arith;
      few = omega arith;
      within = omega arith;
      left = rw q at t.left;
      text = e;
      long = omega (arith, long);
      whole = ap length e ∙ rw (length-append, length-append) (omega (arith, long));
    }
