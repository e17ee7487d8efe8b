-- The text of a record, read.
use Prim.Native.Nat.{ℕ, zero, suc, ◌+◌, ◌*◌, ◌%◌, ◌<◌, ◌≤◌}
use mathlib.Core.Path.{◌≡◌, refl, ap, ◌∙◌}
use mathlib.Core.Bool.{true}
use mathlib.Core.List.{List, [], ◌∷◌, ◌++◌, append_assoc}
use native.Mathlib.Omega.{arith}
use lib.ListN.{length, get_or, take, drop, length-append}
use lib.Seq.{take_at, drop_at, drop-cons, get_or_at}
use borrow.Author.Tests.{lt-ltb}
use Rattle.hex_digits.specs.Hex.{all_digits}
use Rattle.eight.specs.Packed.{Each}
use Rattle.records.specs.Record.{Record, total, front, check, all_bytes, hexes, text_of}
use Rattle.records.specs.Load.{bytes_in, byte_in, bytes_at, count_in, offset_in, kind_in, content_in, total_in, rest_of, is_kind, is_record}
use Rattle.records.specs.Promises.{Taken, TakesRecords}
use Rattle.records.proofs.Bytes.{below_append, bytes_in_lem, hexes_are, length_hexes, check_zero}

-- a record that can be written
pub record Good (r : Record) : Type 0 where
  pub few : length r.content < 256
  pub low : r.offset < 65536
  pub typed : is_kind r.kind (length r.content) r.offset ≡ true
  pub named : r.kind < 256
  pub whole : Each 256 r.content

pub length_all : (r : Record) → length (all_bytes r) ≡ length r.content + 5
unfolding all_bytes front
length_all r = rw length-append (omega arith)

pub length_text : (r : Record) → length (text_of r) ≡ 2 * length r.content + 12
unfolding text_of
length_text r = rw (length-append, length_hexes (all_bytes r), length_all r) (omega arith)

-- bytes one by one, where they all stand in a list
pub bytes_one : (text bs : List ℕ) → ((k : ℕ) → byte_in text k ≡ get_or bs k 0) → (n k : ℕ) → k + n ≤ length bs → bytes_at text k n ≡ take n (drop k bs)
unfolding bytes_at
bytes_one text bs e zero k h = refl
bytes_one text bs e (suc n) k h = rw (e k, bytes_one text bs e n (suc k) (omega arith), drop-cons bs k 0 (omega arith))

module _ (r : Record) (rest : List ℕ) (good : Good r) where
  below : Each 256 (all_bytes r)
  unfolding all_bytes front check
  below = below_append 256 (front r) (check (front r) ∷ []) (good.few, (let h = good.low in omega arith, (omega arith, (good.named, good.whole)))) (omega arith, tt)

  -- the record's bytes, and what is made of the bytes after it
  pub bytes-are : bytes_in (drop 1 (text_of r ++ rest)) ≡ all_bytes r ++ bytes_in (10 ∷ rest)
  unfolding text_of
  bytes-are = ap bytes_in (append_assoc (hexes (all_bytes r)) (10 ∷ []) rest) ∙ bytes_in_lem (all_bytes r) (10 ∷ rest) below

  pub byte-is : (k : ℕ) → byte_in (text_of r ++ rest) k ≡ get_or (all_bytes r ++ bytes_in (10 ∷ rest)) k 0
  unfolding byte_in
  byte-is k = ap (λ (l : List ℕ). get_or l k 0) bytes-are

  pub count-is : count_in (text_of r ++ rest) ≡ length r.content
  unfolding all_bytes front
  count-is = byte-is 0

  pub kind_is : kind_in (text_of r ++ rest) ≡ r.kind
  unfolding all_bytes front
  kind_is = byte-is 3

  pub offset-is : offset_in (text_of r ++ rest) ≡ r.offset
  unfolding all_bytes front
  offset-is = rw (byte-is 1, byte-is 2) (omega arith)

  pub content-is : content_in (text_of r ++ rest) ≡ r.content
  unfolding content_in all_bytes front
  content-is =
      rw (count-is, bytes_one (text_of r ++ rest) (all_bytes r ++ bytes_in (10 ∷ rest)) byte-is (length r.content) 4 (rw (length-append, length-append) (omega arith)), append_assoc r.content (check (front r) ∷ []) (bytes_in (10 ∷ rest)))
      (take_at r.content _ (length r.content) refl)

  zero-sum : total (all_bytes r) % 256 ≡ 0
  unfolding all_bytes
  zero-sum = check_zero (front r)

  pub total-is : total_in (text_of r ++ rest) % 256 ≡ 0
  unfolding total_in
  total-is =
      rw (
        count-is,
        bytes_one (text_of r ++ rest) (all_bytes r ++ bytes_in (10 ∷ rest)) byte-is (length r.content + 5) 0 (rw length-append (omega (arith, length_all r))),
        take_at (all_bytes r) (bytes_in (10 ∷ rest)) (length r.content + 5) (length_all r),
      )
      zero-sum

  pub rest-is : rest_of (text_of r ++ rest) ≡ rest
  rest-is = rw count-is (drop_at (text_of r) rest (2 * length r.content + 10 + 2) (length_text r ∙ omega arith))

  ends_so : get_or (text_of r ++ rest) (2 * length r.content + 10 + 1) 0 ≡ 10
  unfolding text_of
  ends_so = rw (append_assoc (hexes (all_bytes r)) (10 ∷ []) rest) (get_or_at (58 ∷ hexes (all_bytes r)) 10 rest 0 (2 * length r.content + 10 + 1) (omega (arith, length_hexes (all_bytes r), length_all r)))

  digits-so : all_digits (take (2 * length r.content + 10) (drop 1 (text_of r ++ rest))) ≡ true
  unfolding text_of
  digits-so =
      rw (append_assoc (hexes (all_bytes r)) (10 ∷ []) rest, take_at (hexes (all_bytes r)) (10 ∷ rest) (2 * length r.content + 10) (omega (arith, length_hexes (all_bytes r), length_all r)))
      (hexes_are (all_bytes r))

  begins-so : get_or (text_of r ++ rest) 0 0 ≡ 58
  unfolding text_of
  begins-so = refl

  pub record_is : is_record (text_of r ++ rest) ≡ true
  unfolding is_record
  record_is =
      rw (count-is, kind_is, offset-is, lt-ltb (2 * length r.content + 10 + 1) (length (text_of r ++ rest)) (rw (length-append, length_text r) (omega arith)), begins-so, digits-so, ends_so, good.typed)

  pub taken : Taken r rest
  taken = (record_is, total-is, kind_is, offset-is, content-is, rest-is)

pub takes_records : TakesRecords
unfolding is_kind
takes_records rest = (
  λ o bs h n e. taken _ rest (record { few = n; low = h; typed = refl; named = omega arith; whole = e }),
  taken _ rest (record { few = omega arith; low = omega arith; typed = refl; named = omega arith; whole = tt }),
  λ a b h k. taken _ rest (record { few = omega arith; low = omega arith; typed = refl; named = omega arith; whole = (h, (k, tt)) }),
)
