-- Worked cases: exports, and loads with each refusal. `computing` opens every definition.
use Rattle.std.specs.Prelude.{ℕ, zero, suc, ◌≡◌, List, [], ◌∷◌, ◌++◌, map, replicate}
use Prim.Native.String.{String, ◌++◌ as ◌then◌}
use Rattle.hex_digits.specs.Hex.{bytes, hex_digits, place_in, digit_number, all_digits, digit_of, digits}
use Rattle.machine.specs.Window.{place_of, is_window_out_of_form}
use Rattle.records.specs.Window.{window_bytes, window_words}
use Rattle.records.specs.Record.{total, front, check, all_bytes, hexes, text_of, texts}
use Rattle.records.specs.Export.{changed, cut, records_from, records_of, export_of}
use Rattle.records.specs.Load.{Load, bytes_in, byte_in, bytes_at, content_in, total_in, is_kind, is_record, upper_after, all_inside, record_code, code_from, run, said_by, said_from, stored, code_of, load_of}

unfoldable pub computing : ℕ
unfolding hex_digits place_in digit_number all_digits digit_of digits place_of is_window_out_of_form window_bytes window_words total front check all_bytes hexes text_of texts changed cut records_from records_of export_of bytes_in byte_in bytes_at content_in total_in is_kind is_record upper_after all_inside record_code code_from run said_by said_from stored code_of load_of
computing = 0

-- ---- exports

pub record ExportCase : Type 0 where
  pub start : ℕ
  pub words : List ℕ
  pub text : String

abbrev pub export_cases : List ExportCase
export_cases =
    -- five words over a 64 KiB border
    record { start = 0x1FFF8; words = 0x11223344 ∷ 0x55667788 ∷ 0x99AABBCC ∷ 0xDDEEFF00 ∷ 0x01020304 ∷ []; text = ":020000040001F9\n:08FFF80044332211887766559D\n:020000040002F8\n:0C000000CCBBAA9900FFEEDD0403020156\n:00000001FF\n" }
    -- a window that wraps
    ∷ record { start = 0xFFFFFFFC; words = 0xA1B2C3D4 ∷ 1 ∷ []; text = ":02000004FFFFFC\n:04FFFC00D4C3B2A117\n:020000040000FA\n:0400000001000000FB\n:00000001FF\n" }
    -- no words
    ∷ record { start = 0x12340000; words = []; text = ":020000041234B4\n:00000001FF\n" }
    -- a record of 16 bytes and what is left
    ∷ record { start = 0; words = 1 ∷ 2 ∷ 3 ∷ 4 ∷ 5 ∷ []; text = ":020000040000FA\n:1000000001000000020000000300000004000000E6\n:0400100005000000E7\n:00000001FF\n" }
    -- from a start that is no multiple of 16
    ∷ record { start = 4; words = 1 ∷ 2 ∷ 3 ∷ 4 ∷ 5 ∷ []; text = ":020000040000FA\n:1000040001000000020000000300000004000000E2\n:0400140005000000E3\n:00000001FF\n" }
    ∷ []

-- `exports_hold`: each of these windows exports to its text
abbrev pub ExportsHold : Type 0
ExportsHold = map (λ (c : ExportCase). export_of c.start c.words) export_cases ≡ map (λ (c : ExportCase). bytes c.text) export_cases

-- ---- loads

pub record LoadCase : Type 0 where
  pub start : ℕ
  pub words : List ℕ
  pub text : String
  pub code : ℕ
  pub after : List ℕ

-- into two words at 0
abbrev two : String → ℕ → List ℕ → LoadCase
two text code after = record { start = 0; words = 0x11111111 ∷ 0x22222222 ∷ []; text = text; code = code; after = after }

abbrev done : String → ℕ → ℕ → LoadCase
done text w v = two text 0 (w ∷ v ∷ [])

abbrev refuses : String → ℕ → LoadCase
refuses text code = two text code (0x11111111 ∷ 0x22222222 ∷ [])

-- digits, so many times
abbrev times : ℕ → String → String
times zero s = ""
times (suc n) s = s then times n s

abbrev pub load_cases : List LoadCase
load_cases =
    -- nothing said; no type 04; the later one holds; a record of no bytes, even outside the window; a later type 04; any order
    done ":00000001FF\n" 0x11111111 0x22222222
    ∷ done ":01000200AA53\n:00000001FF\n" 0x11AA1111 0x22222222
    ∷ done ":01000200AA53\n:02000100BBCC76\n:00000001FF\n" 0x11CCBB11 0x22222222
    ∷ done ":020000040102F7\n:0000000000\n:00000001FF\n" 0x11111111 0x22222222
    ∷ done ":020000040102F7\n:020000040000FA\n:0100070001F7\n:00000001FF\n" 0x11111111 0x01222222
    ∷ done ":0100070001F7\n:020000040000FA\n:0100000002FD\n:00000001FF\n" 0x11111102 0x01222222
    -- any length: 20 bytes, and 255
    ∷ record { start = 0; words = replicate 6 7; text = ":140000000102030405060708090A0B0C0D0E0F10111213141A\n:00000001FF\n"; code = 0; after = 0x04030201 ∷ 0x08070605 ∷ 0x0C0B0A09 ∷ 0x100F0E0D ∷ 0x14131211 ∷ 7 ∷ [] }
    ∷ record { start = 0; words = replicate 64 0; text = ":FF000000" then (times 255 "5A" then "5B\n:00000001FF\n"); code = 0; after = replicate 63 0x5A5A5A5A ++ (0x005A5A5A ∷ []) }
    -- past offset FFFF the address goes on, after FFFFFFFF at 0; the next record's upper bits are the same
    ∷ record { start = 0x1FFFC; words = 0 ∷ 0 ∷ []; text = ":020000040001F9\n:04FFFE0001020304F5\n:00000001FF\n"; code = 0; after = 0x02010000 ∷ 0x0403 ∷ [] }
    ∷ record { start = 0xFFFFFFFC; words = 0 ∷ 0 ∷ []; text = ":02000004FFFFFC\n:04FFFE0001020304F5\n:00000001FF\n"; code = 0; after = 0x02010000 ∷ 0x0403 ∷ [] }
    ∷ record { start = 0x1FFFC; words = 0 ∷ 0 ∷ []; text = ":020000040001F9\n:04FFFE0001020304F5\n:01FFFC0005FF\n:00000001FF\n"; code = 0; after = 0x02010005 ∷ 0x0403 ∷ [] }
    -- 2 first
    ∷ record { start = 2; words = 5 ∷ []; text = "?"; code = 2; after = 5 ∷ [] }
    ∷ record { start = 0; words = replicate 16385 0; text = ":00000001FF\n"; code = 2; after = replicate 16385 0 }
    -- 16: no LF, CR, an empty line, lower case, a space, no colon, a digit too many, too few
    ∷ refuses ":00000001FF" 16
    ∷ refuses ":00000001FF\r\n" 16
    ∷ refuses "\n:00000001FF\n" 16
    ∷ refuses ":00000001ff\n" 16
    ∷ refuses " :00000001FF\n" 16
    ∷ refuses ";00000001FF\n" 16
    ∷ refuses ":00000001FF0\n" 16
    ∷ refuses ":00000001F\n:00000001FF\n" 16
    -- 16: types 02, 03, 05, 10 and FF; 03 and 05 of the lengths of 01 and 04 too
    ∷ refuses ":020000020000FC\n" 16
    ∷ refuses ":0400000300000000F9\n" 16
    ∷ refuses ":00000003FD\n" 16
    ∷ refuses ":0400000500000000F7\n" 16
    ∷ refuses ":020000050000F9\n" 16
    ∷ refuses ":00000010F0\n" 16
    ∷ refuses ":000000FF01\n" 16
    -- 16: type 04 of no, one and three bytes, at offsets 1 and 100; type 01 of one byte and at those offsets
    ∷ refuses ":00000004FC\n" 16
    ∷ refuses ":0100000400FB\n" 16
    ∷ refuses ":03000004000000F9\n" 16
    ∷ refuses ":020001040000F9\n" 16
    ∷ refuses ":020100040000F9\n" 16
    ∷ refuses ":0100000100FE\n" 16
    ∷ refuses ":00000101FE\n" 16
    ∷ refuses ":00010001FE\n" 16
    -- 17: a sum of 1, and of 128, modulo 256
    ∷ refuses ":01000200AA54\n:00000001FF\n" 17
    ∷ refuses ":01000200AAD3\n:00000001FF\n" 17
    -- 16 before 17 and 18; 17 before 18; 17 of the end record before 19
    ∷ refuses ":0100080001F7 \n" 16
    ∷ refuses ":0100080001F7\n" 17
    ∷ refuses ":00000001FE\n?" 17
    -- 18: past the window; over its end; over its start, round 2^32 and not; at other upper bits
    ∷ refuses ":0100080001F6\n:00000001FF\n" 18
    ∷ refuses ":020007000102F4\n:00000001FF\n" 18
    ∷ refuses ":02000004FFFFFC\n:02FFFF000102FD\n:00000001FF\n" 18
    ∷ record { start = 16; words = 5 ∷ []; text = ":02000F000102EC\n:00000001FF\n"; code = 18; after = 5 ∷ [] }
    ∷ refuses ":020000040001F9\n:0400000001010101F8\n:00000001FF\n" 18
    -- the first bad record counts, before a lower code of a later one
    ∷ refuses ":01000200AA54\n?" 17
    ∷ refuses ":0100080001F6\n:00000001FE\n" 18
    ∷ refuses ":01FFFF000100\n?" 18
    -- 19: no end record, or a byte after it
    ∷ refuses "" 19
    ∷ refuses ":01000200AA53\n" 19
    ∷ refuses ":01000200AA53\n:00000001FF\n\n" 19
    ∷ refuses ":00000001FF\n:01000200AA53\n" 19
    ∷ refuses ":00000001FF\n:00000001FF\n" 19
    -- nothing after it is read: neither 16 nor 17 nor 18
    ∷ refuses ":00000001FF\n?" 19
    ∷ refuses ":00000001FF\n:00000001FE\n" 19
    ∷ refuses ":00000001FF\n:0100080001F6\n" 19
    ∷ []

abbrev expected : LoadCase → Load
expected c = record { code = c.code; words = c.after }

-- `loads_hold`: each of these texts is answered by its code, and leaves its words
abbrev pub LoadsHold : Type 0
LoadsHold =
    map (λ (c : LoadCase). load_of c.start c.words (bytes c.text)) load_cases
    ≡ map expected load_cases
