-- What is promised of exports and loads (document 02, Ask 7).
use Rattle.std.specs.Prelude.{ℕ, suc, ◌-◌, ◌*◌, ◌+◌, ◌%◌, ◌^◌, ◌<◌, ◌≤◌, ◌≡◌, true, false, List, [], ◌∷◌, ◌++◌, length, get_or}
use Rattle.machine.specs.Codes.{done}
use Rattle.machine.specs.Window.{is_window_out_of_form}
use Rattle.eight.specs.Packed.{Each}
use Rattle.records.specs.Window.{window_bytes, byte_place}
use Rattle.records.specs.Record.{Record, text_of}
use Rattle.records.specs.Export.{upper_record, end_record, export_of, export_length}
use Rattle.records.specs.Load.{count_in, kind_in, offset_in, content_in, total_in, rest_of, is_record, address_in, upper_after, all_inside, record_code, code_from, Said, run, said_from, said, load_of}

-- `round_trip`: an export, loaded into whatever words stand at the same start, as many, makes them the words that were exported
abbrev pub RoundTrip : Type 0
RoundTrip =
    (start : ℕ) (words others : List ℕ) → start < 2 ^ 32 → Each (2 ^ 32) words → is_window_out_of_form start (length words) ≡ false → length others ≡ length words
    → load_of start others (export_of start words) ≡ record { code = done; words = words }

-- `exports_differ`: windows whose exports are equal, one of which has a word, have one start and the same words
abbrev pub ExportsDiffer : Type 0
ExportsDiffer =
    (start begin : ℕ) (words others : List ℕ) → start < 2 ^ 32 → begin < 2 ^ 32 → Each (2 ^ 32) words → Each (2 ^ 32) others
    → 0 < length words → export_of start words ≡ export_of begin others → (start ≡ begin) × (words ≡ others)

-- `export_length_lem`: how long an export is, by the start and the number of words alone
abbrev pub ExportLength : Type 0
ExportLength = (start : ℕ) (words : List ℕ) → length words ≤ 16384 → length (export_of start words) ≡ export_length start (length words)

-- `refused_unchanged`: a load that answers another code than 0 leaves every word
abbrev pub RefusedUnchanged : Type 0
RefusedUnchanged = (start : ℕ) (words text : List ℕ) → ((load_of start words text).code ≡ done → ⊥) → (load_of start words text).words ≡ words

-- `reads_records`: what the reader takes for a record, no code applying to it, is to the letter the text of one: the record that has
-- the kind, offset and content that were read. So no other text is taken, and nothing of it is passed over.
abbrev pub ReadsRecords : Type 0
ReadsRecords =
    (start words upper : ℕ) (text : List ℕ) → record_code start words upper text ≡ done
    → text ≡ text_of (record { kind = kind_in text; offset = offset_in text; content = content_in text }) ++ rest_of text

-- the text of a record is taken for that record, and what stands behind it is read on
abbrev pub Taken : Record → List ℕ → Type 0
Taken r rest =
    let text = text_of r ++ rest in
    (is_record text ≡ true) × (total_in text % 256 ≡ 0) × (kind_in text ≡ r.kind) × (offset_in text ≡ r.offset) × (content_in text ≡ r.content) × (rest_of text ≡ rest)

-- `takes_records`: so is each record of these types, whatever stands behind it: data of up to 255 bytes at any offset, the end, upper bits
abbrev pub TakesRecords : Type 0
TakesRecords =
    (rest : List ℕ)
    → ((offset : ℕ) (content : List ℕ) → offset < 65536 → length content < 256 → Each 256 content → Taken (record { kind = 0; offset = offset; content = content }) rest)
    × Taken (record { kind = 1; offset = 0; content = [] }) rest
    × ((a b : ℕ) → a < 256 → b < 256 → Taken (record { kind = 4; offset = 0; content = a ∷ b ∷ [] }) rest)

-- ---- a load, by numbers

-- the code of the record that a text begins with, lowest first
pub record CodeByNumbers (start words upper : ℕ) (text : List ℕ) : Type 0 where
  -- no record of these types, the sum aside: 16
  pub none : is_record text ≡ false → record_code start words upper text ≡ 16
  -- one whose bytes do not sum to zero modulo 256: 17
  pub sum : is_record text ≡ true → (total_in text % 256 ≡ 0 → ⊥) → record_code start words upper text ≡ 17
  -- data with a byte outside the window: 18
  pub outside : is_record text ≡ true → total_in text % 256 ≡ 0 → kind_in text ≡ 0 → all_inside start words (address_in upper text) (count_in text) ≡ false → record_code start words upper text ≡ 18
  -- any other: 0
  pub good : is_record text ≡ true → total_in text % 256 ≡ 0 → (kind_in text ≡ 0 → all_inside start words (address_in upper text) (count_in text) ≡ true) → record_code start words upper text ≡ 0

-- `code_is`: whatever window, upper bits and text are, that is the code of a record
abbrev pub CodeIs : Type 0
CodeIs = (start words upper : ℕ) (text : List ℕ) → CodeByNumbers start words upper text

-- the code of a text from a record on
pub record TextByNumbers (most start words upper : ℕ) (text : List ℕ) : Type 0 where
  -- nothing is left, and no end record came: 19
  pub no_end : length text ≡ 0 → code_from most start words upper text ≡ 19
  -- a record with a code: that code, whatever stands behind it
  pub bad : 0 < length text → (record_code start words upper text ≡ 0 → ⊥) → code_from most start words upper text ≡ record_code start words upper text
  -- an end record without one: 0 if no byte stands behind it, else 19, whatever they are
  pub last : 0 < length text → record_code start words upper text ≡ 0 → kind_in text ≡ 1 → length (rest_of text) ≡ 0 → code_from most start words upper text ≡ 0
  pub behind : 0 < length text → record_code start words upper text ≡ 0 → kind_in text ≡ 1 → 0 < length (rest_of text) → code_from most start words upper text ≡ 19
  -- any other without one: the code of the rest, with the upper bits after it
  pub on : 0 < length text → record_code start words upper text ≡ 0 → (kind_in text ≡ 1 → ⊥) → code_from most start words upper text ≡ code_from (most - 1) start words (upper_after upper text) (rest_of text)
  -- there are no other codes but 16 to 19
  pub few : (n : ℕ) → code_from most start words upper text ≡ suc n → (15 ≤ n) × (n ≤ 18)

-- `text_code_is`: so the first bad record has the code, and nothing is read past the end record
abbrev pub TextCodeIs : Type 0
TextCodeIs = (most start words upper : ℕ) (text : List ℕ) → length text ≤ most → TextByNumbers most start words upper text

-- what a text that begins with this record says: these bytes, then what the rest does, with upper bits that may be others
abbrev pub Says : ℕ → Record → List ℕ → List Said → ℕ → Type 0
Says upper r rest bytes next = (most : ℕ) → length (text_of r ++ rest) ≤ most → said_from most upper (text_of r ++ rest) ≡ bytes ++ said_from (most - 1) next rest

-- `said_is`: data say their bytes, from upper bits and offset on and round 2^32; the end and upper bits say none, and the latter hold from there on
abbrev pub SaidIs : Type 0
SaidIs =
    (upper : ℕ) (rest : List ℕ)
    → ((offset : ℕ) (content : List ℕ) → offset < 65536 → length content < 256 → Each 256 content
    → Says upper (record { kind = 0; offset = offset; content = content }) rest (run (upper * 65536 + offset) content) upper)
    × Says upper end_record rest [] upper
    × ((u : ℕ) → u < 65536 → Says upper (upper_record u) rest [] u)

-- none of these bytes is at that place of the window
abbrev pub NoneAt : ℕ → ℕ → List Said → Type 0
NoneAt start p [] = Unit
NoneAt start p (s ∷ ss) = (p ≡ byte_place start s.address → ⊥) × NoneAt start p ss

-- the window's byte at a place after a load
abbrev pub byte_after : ℕ → List ℕ → List ℕ → ℕ → ℕ
byte_after start words text p = get_or (window_bytes (load_of start words text).words) p 0

-- `unsaid_stays`: a byte that is in no record stays
abbrev pub UnsaidStays : Type 0
UnsaidStays = (start p : ℕ) (words text : List ℕ) → NoneAt start p (said text) → byte_after start words text p ≡ get_or (window_bytes words) p 0

-- `later_holds`: where records give a byte more than once, the last one holds: s is said of the place, and nothing later is
abbrev pub LaterHolds : Type 0
LaterHolds =
    (start p : ℕ) (words text : List ℕ) (before : List Said) (s : Said) (later : List Said)
    → (load_of start words text).code ≡ 0 → said text ≡ before ++ (s ∷ later) → p ≡ byte_place start s.address → p < 4 * length words → NoneAt start p later
    → byte_after start words text p ≡ s.byte
