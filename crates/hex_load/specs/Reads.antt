-- What the code reads of digits and of a record's first four bytes, and what its steps answer.
use Rattle.std.specs.Prelude.{ℕ, ⊤, ◌+◌, ◌%◌, ◌<◌, ◌≤◌, ◌≡◌, true, false, cond, Option, Some, None, Result, Ok, Err, List, length, take, drop}
use Rattle.machine.specs.Codes.{done}
use Rattle.machine.specs.Refusals.{refusal_number}
use Rattle.machine.specs.declared.codes.Refusal.{Refusal}
use Rattle.hex_digits.specs.Hex.{all_digits}
use Rattle.records.specs.Record.{total}
use Rattle.records.specs.Load.{bytes_in, count_in, offset_in, kind_in, digits_in, is_kind, is_record, record_code, code_from, refused_from}
use Rattle.hex_load.specs.declared.Kind.{Kind}
use Rattle.hex_load.specs.declared.Kind.TheVariants.{Data, End, Upper}
use Rattle.hex_load.specs.declared.Head.{Head}
use Rattle.hex_load.specs.declared.Refused.{Refused}

-- the sum of the bytes that digits stand for, modulo 256, if all are digits
unfoldable pub sum_of : List ℕ → Option ℕ
sum_of s = cond (all_digits s) (Some (total (bytes_in s) % 256)) None

-- the number of a type
abbrev pub kind_number : Kind → ℕ
kind_number Data = 0
kind_number End = 1
kind_number Upper = 4

-- the type of a number, count and offset
abbrev pub KindOf : ℕ → ℕ → ℕ → Option Kind → Type 0
KindOf kind count offset (Some k) = (is_kind kind count offset ≡ true) × (kind_number k ≡ kind)
KindOf kind count offset None = is_kind kind count offset ≡ false

-- a head holds the first four bytes of the record that a text begins with
pub record Reads (text : List ℕ) (h : Head) : Type 0 where
  pub counts : h.count ≡ count_in text
  pub offsets : h.offset ≡ offset_in text
  pub kinds : kind_number h.kind ≡ kind_in text

-- the head of the eight digits behind the first byte, where they are digits, and say a type
abbrev pub HeadRead : List ℕ → Option Head → Type 0
HeadRead text (Some h) = Reads text h × (all_digits (take 8 (drop 1 text)) ≡ true) × (is_kind (kind_in text) (count_in text) (offset_in text) ≡ true)
HeadRead text None = is_record text ≡ false

-- the head of a text that begins with a record, or would if the bytes behind the first eight digits were digits too
pub record Begins (text : List ℕ) (h : Head) : Type 0 where
  pub reads : Reads text h
  pub some : all_digits (take 8 (drop 1 text)) ≡ true
  pub fits : digits_in text + 1 < length text
  pub digits : is_record text ≡ all_digits (take (digits_in text) (drop 1 text))

abbrev pub HeadOf : List ℕ → Option Head → Type 0
HeadOf text (Some h) = Begins text h
HeadOf text None = is_record text ≡ false

-- the head of a record that nothing refuses, or what refuses it
abbrev pub RecordOf : ℕ → ℕ → ℕ → List ℕ → Result Head Refusal → Type 0
RecordOf start words upper text (Ok h) = (record_code start words upper text ≡ done) × Reads text h
RecordOf start words upper text (Err r) = (record_code start words upper text ≡ refusal_number r) × (record_code start words upper text ≡ done → ⊥)

-- that nothing refuses a text, or what does and where
abbrev pub TextOf : ℕ → ℕ → List ℕ → Result ⊤ Refused → Type 0
TextOf start words text (Ok x) = (code_from (length text) start words 0 text ≡ done) × (refused_from (length text) start words 0 text ≡ length text)
TextOf start words text (Err r) =
    (code_from (length text) start words 0 text ≡ refusal_number r.refusal) × (code_from (length text) start words 0 text ≡ done → ⊥)
    × (refused_from (length text) start words 0 text ≡ r.at) × (r.at ≤ length text)
