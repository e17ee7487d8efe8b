-- A load by numbers: which code a record and a text have, what a record says, and which byte holds.
use Prim.Native.Nat.{ℕ, zero, suc, ◌+◌, ◌-◌, ◌*◌, ◌/◌, ◌%◌, ◌<◌, ◌≤◌}
use mathlib.Core.Path.{◌≡◌, refl, sym, ap, ◌∙◌}
use mathlib.Core.Bool.{Bool, true, false, cond, not, ◌&&◌}
use mathlib.Core.List.{List, [], ◌∷◌, ◌++◌}
use native.Mathlib.Omega.{arith}
use native.Mathlib.Numerals.{sub-one}
use lib.ListN.{length, get_or, drop, set, length-set}
use lib.Seq.{get_or-set_same, get_or-set_other}
use lib.Dec.{eqb}
use borrow.Author.Tests.{ne_eqb, eqb-true}
use Rattle.eight.specs.Packed.{Each}
use Rattle.records.specs.Window.{window_bytes, window_words, byte_place}
use Rattle.records.specs.Record.{front, all_bytes}
use Rattle.records.specs.Export.{end_record, upper_record}
use Rattle.records.specs.Load.{Load, Said, bytes_in, byte_in, bytes_at, content_in, kind_in, count_in, total_in, rest_of, address_in, is_record, is_kind, upper_after, all_inside, record_code, code_from, run, said_by, said_from, said, stored, code_of, load_of}
use Rattle.records.specs.Promises.{CodeIs, TextCodeIs, SaidIs, NoneAt, UnsaidStays, LaterHolds}
use Rattle.records.proofs.Bytes.{bytes_below, length_bytes}
use Rattle.records.proofs.Read.{Good}
use Rattle.records.proofs.Steps.{less, said_step}
use Rattle.records.proofs.Induction.{good_upper, good_end}
use Rattle.records.proofs.Promises.{same_upper}

-- ---- codes

pub code_is : CodeIs
unfolding record_code
code_is start words upper text =
    record {
      none = λ e. rw e;
      sum = λ e h. rw (e, ne_eqb (total_in text % 256) 0 h);
      outside = λ e h k o. rw (e, h, k, o);
      good = λ e h o. rw (e, h) (inside-by (eqb (kind_in text) 0) refl o);
    }
  where
    inside-by : (t : Bool) → eqb (kind_in text) 0 ≡ t → (kind_in text ≡ 0 → all_inside start words (address_in upper text) (count_in text) ≡ true)
        → cond {A = ℕ} (t && not (all_inside start words (address_in upper text) (count_in text))) 18 0 ≡ 0
    inside-by true e o = rw (o (eqb-true (kind_in text) 0 e))
    inside-by false e o = refl

module _ (start words : ℕ) where
  record-few : (upper : ℕ) (text : List ℕ) (n : ℕ) → record_code start words upper text ≡ suc n → (15 ≤ n) × (n ≤ 18)
  unfolding record_code
  record-few upper text n e = by (is_record text) (eqb (total_in text % 256) 0) (eqb (kind_in text) 0 && not (all_inside start words (address_in upper text) (count_in text))) e
    where
      by : (r z o : Bool) → cond (not r) 16 (cond (not z) 17 (cond o 18 0)) ≡ suc n → (15 ≤ n) × (n ≤ 18)
      by true true true q = (omega arith, omega arith)
      by true true false q = absurd (omega arith)
      by true false o q = (omega arith, omega arith)
      by false z o q = (omega arith, omega arith)

  text-few : (most upper : ℕ) (text : List ℕ) (n : ℕ) → code_from most start words upper text ≡ suc n → (15 ≤ n) × (n ≤ 18)
  unfolding code_from
  text-few zero upper text n e = (omega arith, omega arith)
  text-few (suc most) upper text n e =
      by (eqb (length text) 0) (eqb (record_code start words upper text) 0) (eqb (kind_in text) 1) (eqb (length (rest_of text)) 0) (text-few most (upper_after upper text) (rest_of text) n) e
    where
      by : (l c k s : Bool) → (code_from most start words (upper_after upper text) (rest_of text) ≡ suc n → (15 ≤ n) × (n ≤ 18)) → cond l 19 (cond c (cond k (cond s 0 19) (code_from most start words (upper_after upper text) (rest_of text))) (record_code start words upper text)) ≡ suc n → (15 ≤ n) × (n ≤ 18)
      by true c k s rest q = (omega arith, omega arith)
      by false true true true rest q = absurd (omega arith)
      by false true true false rest q = (omega arith, omega arith)
      by false true false s rest q = rest q
      by false false k s rest q = record-few upper text n q

some : (text : List ℕ) → 0 < length text → eqb (length text) 0 ≡ false
some text h = ne_eqb (length text) 0 (λ e. omega arith)

pub text_code_is : TextCodeIs
unfolding code_from
text_code_is zero start words upper text h =
    record {
      no_end = λ e. refl;
      bad = λ l e. absurd (omega arith);
      last = λ l e k r. absurd (omega arith);
      behind = λ l e k r. absurd (omega arith);
      on = λ l e k. absurd (omega arith);
      few = text-few start words zero upper text;
    }
text_code_is (suc most) start words upper text h =
    record {
      no_end = λ e. rw e;
      bad = λ l e. rw (some text l, ne_eqb (record_code start words upper text) 0 e);
      last = λ l e k r. rw (some text l, e, k, r);
      behind = λ l e k r. rw (some text l, e, k, some (rest_of text) r);
      on = λ l e k. rw (some text l, e, ne_eqb (kind_in text) 1 k, sub-one);
      few = text-few start words (suc most) upper text;
    }

-- ---- what a record says

less_is : (n : ℕ) → less n ≡ n - 1
less_is zero = refl
less_is (suc n) = rw sub-one

pub said_is : SaidIs
unfolding is_kind all_bytes front
said_is upper rest = (
  λ o bs h n e most l.
      let good : Good (record { kind = 0; offset = o; content = bs }) = record { few = n; low = h; typed = refl; named = omega arith; whole = e } in
      said_step (record { kind = 0; offset = o; content = bs }) rest good most upper l ∙ rw (less_is most),
  λ most l. said_step end_record rest good_end most upper l ∙ rw (less_is most),
  λ u h most l. said_step (upper_record u) rest (good_upper u h) most upper l ∙ rw (less_is most, same_upper u),
)

-- ---- bytes below 256

below_set : (m : ℕ) (xs : List ℕ) (i b : ℕ) → Each m xs → b < m → Each m (set xs i b)
below_set m [] i b h k = tt
below_set m (x ∷ xs) zero b h k = (k, h.1)
below_set m (x ∷ xs) (suc i) b h k = (h.0, below_set m xs i b h.1 k)

below_at : (xs : List ℕ) (k : ℕ) → Each 256 xs → get_or xs k 0 < 256
below_at [] k h = omega arith
below_at (x ∷ xs) zero h = h.0
below_at (x ∷ xs) (suc k) h = below_at xs k h.1

below_in : (s : List ℕ) → Each 256 (bytes_in s)
unfolding bytes_in
below_in [] = tt
below_in (a ∷ []) = tt
below_in (a ∷ b ∷ s) = (omega arith, below_in s)

below_some : (text : List ℕ) (k n : ℕ) → Each 256 (bytes_at text k n)
unfolding bytes_at byte_in
below_some text k zero = tt
below_some text k (suc n) = (below_at (bytes_in (drop 1 text)) k (below_in (drop 1 text)), below_some text (suc k) n)

-- each of these bytes is one
abbrev Bytes : List Said → Type 0
Bytes [] = Unit
Bytes (s ∷ ss) = (s.byte < 256) × Bytes ss

bytes_append : (xs ys : List Said) → Bytes xs → Bytes ys → Bytes (xs ++ ys)
bytes_append [] ys h k = k
bytes_append (x ∷ xs) ys h k = (h.0, bytes_append xs ys h.1 k)

bytes_run : (a : ℕ) (bs : List ℕ) → Each 256 bs → Bytes (run a bs)
unfolding run
bytes_run a [] h = tt
bytes_run a (b ∷ bs) h = (h.0, bytes_run (suc a) bs h.1)

bytes_by : (upper : ℕ) (text : List ℕ) → Bytes (said_by upper text)
unfolding said_by content_in
bytes_by upper text = by (eqb (kind_in text) 0)
  where
    by : (t : Bool) → Bytes (cond t (run (address_in upper text) (bytes_at text 4 (count_in text))) [])
    by true = bytes_run (address_in upper text) (bytes_at text 4 (count_in text)) (below_some text 4 (count_in text))
    by false = tt

bytes_said : (most upper : ℕ) (text : List ℕ) → Bytes (said_from most upper text)
unfolding said_from
bytes_said zero upper text = tt
bytes_said (suc most) upper text =
    by (eqb (length text) 0) (bytes_append (said_by upper text) (said_from most (upper_after upper text) (rest_of text)) (bytes_by upper text) (bytes_said most (upper_after upper text) (rest_of text)))
  where
    by : (t : Bool) → Bytes (said_by upper text ++ said_from most (upper_after upper text) (rest_of text)) → Bytes (cond t [] (said_by upper text ++ said_from most (upper_after upper text) (rest_of text)))
    by true h = tt
    by false h = h

-- ---- bytes stored

-- four bytes, as a word and back
module _ (a b c d : ℕ) (h : a < 256) (k : b < 256) (l : c < 256) (m : d < 256) where
  byte-0 : (a + 256 * b + 65536 * c + 16777216 * d) % 256 ≡ a
  byte-0 = omega arith

  byte-1 : (a + 256 * b + 65536 * c + 16777216 * d) / 256 % 256 ≡ b
  byte-1 = omega arith

  byte-2 : (a + 256 * b + 65536 * c + 16777216 * d) / 65536 % 256 ≡ c
  byte-2 = omega arith

  byte-3 : (a + 256 * b + 65536 * c + 16777216 * d) / 16777216 % 256 ≡ d
  byte-3 = omega arith

bytes_back : (n : ℕ) (bs : List ℕ) → length bs ≡ 4 * n → Each 256 bs → window_bytes (window_words bs) ≡ bs
unfolding window_bytes window_words
bytes_back zero [] e h = refl
bytes_back zero (a ∷ bs) e h = absurd (omega arith)
bytes_back (suc n) [] e h = absurd (omega arith)
bytes_back (suc n) (a ∷ []) e h = absurd (omega arith)
bytes_back (suc n) (a ∷ b ∷ []) e h = absurd (omega arith)
bytes_back (suc n) (a ∷ b ∷ c ∷ []) e h = absurd (omega arith)
bytes_back (suc n) (a ∷ b ∷ c ∷ d ∷ bs) e h =
    let k = h.1.0 in
    let l = h.1.1.0 in
    let m = h.1.1.1.0 in
    rw (byte-0 a b c d h.0 k l m, byte-1 a b c d h.0 k l m, byte-2 a b c d h.0 k l m, byte-3 a b c d h.0 k l m, bytes_back n bs (omega arith) h.1.1.1.1)

module _ (start : ℕ) where
  stored-length : (bytes : List ℕ) (ss : List Said) → length (stored start bytes ss) ≡ length bytes
  unfolding stored
  stored-length bytes [] = refl
  stored-length bytes (s ∷ ss) = stored-length (set bytes (byte_place start s.address) s.byte) ss ∙ length-set bytes (byte_place start s.address) s.byte

  stored-below : (bytes : List ℕ) (ss : List Said) → Each 256 bytes → Bytes ss → Each 256 (stored start bytes ss)
  unfolding stored
  stored-below bytes [] h k = h
  stored-below bytes (s ∷ ss) h k = stored-below (set bytes (byte_place start s.address) s.byte) ss (below_set 256 bytes (byte_place start s.address) s.byte h k.0) k.1

  module _ (p : ℕ) where
    stored-stays : (bytes : List ℕ) (ss : List Said) → NoneAt start p ss → get_or (stored start bytes ss) p 0 ≡ get_or bytes p 0
    unfolding stored
    stored-stays bytes [] h = refl
    stored-stays bytes (s ∷ ss) h =
        stored-stays (set bytes (byte_place start s.address) s.byte) ss h.1 ∙ get_or-set_other bytes (byte_place start s.address) p s.byte 0 h.0

    stored-holds : (bytes : List ℕ) (before : List Said) (s : Said) (later : List Said) → p ≡ byte_place start s.address → p < length bytes → NoneAt start p later
        → get_or (stored start bytes (before ++ (s ∷ later))) p 0 ≡ s.byte
    unfolding stored
    stored-holds bytes [] s later e h n =
        stored-stays (set bytes (byte_place start s.address) s.byte) later n ∙ ap (λ (i : ℕ). get_or (set bytes i s.byte) p 0) (sym e) ∙ get_or-set_same bytes p s.byte 0 h
    stored-holds bytes (b ∷ before) s later e h n =
        stored-holds (set bytes (byte_place start b.address) b.byte) before s later e (rw length-set h) n

  module _ (words text : List ℕ) where
    -- the window's bytes after what the text says
    abbrev after : List ℕ
    after = stored start (window_bytes words) (said text)

    after-back : window_bytes (window_words after) ≡ after
    after-back =
        bytes_back (length words) after (stored-length (window_bytes words) (said text) ∙ length_bytes words)
        (stored-below (window_bytes words) (said text) (bytes_below words) (bytes_said (length text) 0 text))

pub unsaid_stays : UnsaidStays
unfolding load_of
unsaid_stays start p words text h = by (code_of start (length words) text)
  where
    by : (code : ℕ) → get_or (window_bytes (cond {A = Load} (eqb code 0) (record { code = 0; words = window_words (after start words text) }) (record { code = code; words = words })).words) p 0 ≡ get_or (window_bytes words) p 0
    by zero = rw (after-back start words text) (stored-stays start p (window_bytes words) (said text) h)
    by (suc code) = rw (ne_eqb (suc code) 0 (λ e. omega arith))

pub later_holds : LaterHolds
unfolding load_of
later_holds start p words text before s later done whole e h n = by (code_of start (length words) text) done
  where
    holds : get_or (after start words text) p 0 ≡ s.byte
    holds = rw whole (stored-holds start p (window_bytes words) before s later e (rw length_bytes h) n)

    by : (code : ℕ) → (cond {A = Load} (eqb code 0) (record { code = 0; words = window_words (after start words text) }) (record { code = code; words = words })).code ≡ 0
        → get_or (window_bytes (cond {A = Load} (eqb code 0) (record { code = 0; words = window_words (after start words text) }) (record { code = code; words = words })).words) p 0 ≡ s.byte
    by zero q = rw (after-back start words text) holds
    by (suc code) q = absurd (omega (arith, rw (ne_eqb (suc code) 0 (λ e. omega arith)) at q))
