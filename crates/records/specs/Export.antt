-- The export of a window (document 02, Ask 7): its records, and their texts joined.
use Rattle.std.specs.Prelude.{ℕ, zero, suc, ◌+◌, ◌-◌, ◌*◌, ◌/◌, ◌%◌, min, cond, List, [], ◌∷◌, ◌++◌, length, take, drop, eqb}
use Rattle.records.specs.Window.{window_bytes}
use Rattle.records.specs.Record.{Record, texts}

-- the upper 16 bits of an address, modulo 2^32
abbrev pub upper_of : ℕ → ℕ
upper_of a = a / 65536 % 65536

abbrev pub upper_record : ℕ → Record
upper_record upper = record { kind = 4; offset = 0; content = upper / 256 ∷ upper % 256 ∷ [] }

abbrev pub data_record : ℕ → List ℕ → Record
data_record a bs = record { kind = 0; offset = a % 65536; content = bs }

abbrev pub end_record : Record
end_record = record { kind = 1; offset = 0; content = [] }

-- the upper bits as a record, if they have changed
unfoldable pub changed : ℕ → ℕ → List Record
changed upper next = cond (eqb next upper) [] (upper_record next ∷ [])

-- how many bytes the data record at an address has, with so many left: 16, fewer only where the upper bits change or the window ends
unfoldable pub cut : ℕ → ℕ → ℕ
cut a left = min (min 16 left) (65536 - a % 65536)

-- The records of the bytes from an address on, `upper` being the upper bits given last. Addresses go on past 2^32, and are taken modulo it where
-- they are written. There are no more data records than bytes: the first argument counts down.
unfoldable pub records_from : ℕ → ℕ → ℕ → List ℕ → List Record
records_from zero upper a bs = []
records_from (suc most) upper a [] = []
records_from (suc most) upper a (b ∷ bs) =
    let n = cut a (length (b ∷ bs)) in
    changed upper (upper_of a) ++ (data_record a (take n (b ∷ bs)) ∷ records_from most (upper_of a) (a + n) (drop n (b ∷ bs)))

-- first the upper bits of the start, for no words too; last the end record
unfoldable pub records_of : ℕ → List ℕ → List Record
records_of start bs = upper_record (upper_of start) ∷ records_from (length bs) (upper_of start) start bs ++ (end_record ∷ [])

unfoldable pub export_of : ℕ → List ℕ → List ℕ
export_of start words = texts (records_of start (window_bytes words))

-- How many bytes an export has, of so many words. The bytes of a window in form lie on one side of a 64 KiB border or on two (`export_length_lem`): each
-- side has a data record for every 16 bytes and for what is left, 12 bytes and the content's digits long; the second has a record of upper bits.
unfoldable pub export_length : ℕ → ℕ → ℕ
export_length start words =
    let bytes = 4 * words in
    let first = min bytes (65536 - start % 65536) in
    let second = bytes - first in
    28 + 2 * bytes + 12 * ((first + 15) / 16 + (second + 15) / 16) + cond (eqb second 0) 0 16
