-- What a HEX text says of bytes, which code refuses it, and the window after it (document 02, Ask 7).
use Rattle.std.specs.Prelude.{ℕ, zero, suc, ◌+◌, ◌*◌, ◌%◌, ◌^◌, Bool, true, not, cond, ◌&&◌, ◌||◌, List, [], ◌∷◌, ◌++◌, length, get_or, take, drop, set, eqb, ltb}
use Rattle.hex_digits.specs.Hex.{digit_number, all_digits}
use Rattle.machine.specs.Codes.{done, window_out_of_form, not_ahex_record, wrong_sum, outside_the_window, no_end_or_not_last}
use Rattle.machine.specs.Window.{inside, is_window_out_of_form}
use Rattle.records.specs.Window.{window_bytes, window_words, byte_place}
use Rattle.records.specs.Record.{colon, lf, total}

-- ---- the record that a text begins with: its count says where it ends

-- the bytes of digits, two to a byte; what is no digit counts as 0
unfoldable pub bytes_in : List ℕ → List ℕ
bytes_in (a ∷ b ∷ s) = (digit_number a % 16 * 16 + digit_number b % 16) ∷ bytes_in s
bytes_in (a ∷ []) = []
bytes_in [] = []

-- byte k of the record; n bytes from byte k on
unfoldable pub byte_in : List ℕ → ℕ → ℕ
byte_in text k = get_or (bytes_in (drop 1 text)) k 0

unfoldable pub bytes_at : List ℕ → ℕ → ℕ → List ℕ
bytes_at text k zero = []
bytes_at text k (suc n) = byte_in text k ∷ bytes_at text (suc k) n

abbrev pub count_in : List ℕ → ℕ
count_in text = byte_in text 0

abbrev pub offset_in : List ℕ → ℕ
offset_in text = byte_in text 1 * 256 + byte_in text 2

abbrev pub kind_in : List ℕ → ℕ
kind_in text = byte_in text 3

unfoldable pub content_in : List ℕ → List ℕ
content_in text = bytes_at text 4 (count_in text)

unfoldable pub total_in : List ℕ → ℕ
total_in text = total (bytes_at text 0 (count_in text + 5))

-- how many digits it has; a colon stands before them and LF behind
abbrev pub digits_in : List ℕ → ℕ
digits_in text = 2 * count_in text + 10

abbrev pub rest_of : List ℕ → List ℕ
rest_of text = drop (digits_in text + 2) text

-- types 00, 01 and 04: a data record of any length at any offset, an end record of no bytes and upper bits of two, both at offset 0
unfoldable pub is_kind : ℕ → ℕ → ℕ → Bool
is_kind kind count offset = eqb kind 0 || (eqb offset 0 && cond (eqb kind 1) (eqb count 0) (eqb kind 4 && eqb count 2))

-- a text begins with a record of these types, the sum aside: long enough, a colon, digits alone, LF
unfoldable pub is_record : List ℕ → Bool
is_record text =
    (ltb (digits_in text + 1) (length text) && eqb (get_or text 0 0) colon)
    && ((all_digits (take (digits_in text) (drop 1 text)) && eqb (get_or text (digits_in text + 1) 0) lf) && is_kind (kind_in text) (count_in text) (offset_in text))

-- ---- what it says

-- the upper bits after a record; before any they are zero
unfoldable pub upper_after : ℕ → List ℕ → ℕ
upper_after upper text = cond (eqb (kind_in text) 4) (byte_in text 4 * 256 + byte_in text 5) upper

abbrev pub address_in : ℕ → List ℕ → ℕ
address_in upper text = upper * 65536 + offset_in text

-- so many addresses, from one on and round 2^32, belong to the window
unfoldable pub all_inside : ℕ → ℕ → ℕ → ℕ → Bool
all_inside start words a zero = true
all_inside start words a (suc n) = inside start words a && all_inside start words (suc a) n

-- the lowest code that applies to a record
unfoldable pub record_code : ℕ → ℕ → ℕ → List ℕ → ℕ
record_code start words upper text =
    cond (not (is_record text)) not_ahex_record
    (cond (not (eqb (total_in text % 256) 0)) wrong_sum
    (cond (eqb (kind_in text) 0 && not (all_inside start words (address_in upper text) (count_in text))) outside_the_window done))

-- The code of the first record that has one; nothing is read past the end record, and it has to be there and to be the last. The first
-- argument counts down, and is at least the text's length.
unfoldable pub code_from : ℕ → ℕ → ℕ → ℕ → List ℕ → ℕ
code_from zero start words upper text = no_end_or_not_last
code_from (suc most) start words upper text =
    let code = record_code start words upper text in
    cond (eqb (length text) 0) no_end_or_not_last
    (cond (eqb code done)
    (cond (eqb (kind_in text) 1) (cond (eqb (length (rest_of text)) 0) done no_end_or_not_last) (code_from most start words (upper_after upper text) (rest_of text)))
    code)

-- The place in a text of what that code is told of: the first record that has one, what stands behind the end record, or the text's end.
unfoldable pub refused_from : ℕ → ℕ → ℕ → ℕ → List ℕ → ℕ
refused_from zero start words upper text = 0
refused_from (suc most) start words upper text =
    cond (eqb (length text) 0) 0
    (cond (eqb (record_code start words upper text) done)
    (digits_in text + 2 + cond (eqb (kind_in text) 1) 0 (refused_from most start words (upper_after upper text) (rest_of text)))
    0)

-- a byte at an address
pub record Said : Type 0 where
  pub address : ℕ
  pub byte : ℕ

-- bytes from an address on; after FFFFFFFF comes 0
unfoldable pub run : ℕ → List ℕ → List Said
run a [] = []
run a (b ∷ bs) = record { address = a % 2 ^ 32; byte = b } ∷ run (suc a) bs

unfoldable pub said_by : ℕ → List ℕ → List Said
said_by upper text = cond (eqb (kind_in text) 0) (run (address_in upper text) (content_in text)) []

-- what the data records of a text say, in their order
unfoldable pub said_from : ℕ → ℕ → List ℕ → List Said
said_from zero upper text = []
said_from (suc most) upper text =
    cond (eqb (length text) 0) [] (said_by upper text ++ said_from most (upper_after upper text) (rest_of text))

abbrev pub said : List ℕ → List Said
said text = said_from (length text) 0 text

-- the window's bytes after it, each said one stored in turn: so the later holds, and what is not said stays
unfoldable pub stored : ℕ → List ℕ → List Said → List ℕ
stored start bytes [] = bytes
stored start bytes (s ∷ ss) = stored start (set bytes (byte_place start s.address) s.byte) ss

-- ---- the load

pub record Load : Type 0 where
  pub code : ℕ
  pub words : List ℕ

-- the window's form comes before the text
unfoldable pub code_of : ℕ → ℕ → List ℕ → ℕ
code_of start words text = cond (is_window_out_of_form start words) window_out_of_form (code_from (length text) start words 0 text)

unfoldable pub refused_at : ℕ → ℕ → List ℕ → ℕ
refused_at start words text = cond (is_window_out_of_form start words) 0 (refused_from (length text) start words 0 text)

-- a refusal leaves every word
unfoldable pub load_of : ℕ → List ℕ → List ℕ → Load
load_of start words text =
    let code = code_of start (length words) text in
    cond (eqb code done) (record { code = done; words = window_words (stored start (window_bytes words) (said text)) }) (record { code = code; words = words })
