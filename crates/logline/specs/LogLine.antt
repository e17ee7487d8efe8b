-- The log line of an answer.
use Rattle.std.specs.Prelude.{ℕ, ◌+◌, List, [], ◌++◌, false, cond, length, leb}
use Rattle.machine.specs.Codes.{unknown_label_set}
use Rattle.machine.specs.declared.Answer.{Answer}
use Rattle.hex_digits.specs.Hex.{bytes, digits}
use Rattle.logline.specs.Labels.{english_set, label_of}

-- Frames and the log, Ask 3: 21 digits, two of the code, eight of the address, eight of the data, one of the enables, one that is 1 while PCI's interrupt line
-- is up, and one for the Add-On's
unfoldable pub numbers : Answer → List ℕ
numbers a =
    digits 2 a.code ++ digits 8 a.address ++ digits 8 a.value ++ digits 1 a.enables ++ digits 1 (cond a.line 1 0)
    ++ digits 1 (cond a.addon_line 1 0)

-- then one space, and the label that the set has for the code
unfoldable pub log_body : ℕ → Answer → List ℕ
log_body set a = numbers a ++ bytes " " ++ label_of set a.code

-- and LF
unfoldable pub log_line : ℕ → Answer → List ℕ
log_line set a = log_body set a ++ bytes "\n"

-- a refusal that answers no step and no line of a log has a code and nothing else: an unknown label set (document 02, Ask 1), a HEX text or its room (Ask 7)
abbrev pub refusing : ℕ → Answer
refusing code = record { code = code; address = 0; value = 0; enables = 0; line = false; addon_line = false; changed = 0 }

-- the one line that refuses an unknown label set, with its English label
unfoldable pub refusal : List ℕ
refusal = log_line english_set (refusing unknown_label_set)

-- the room that is asked for each line: no log line is longer (`line_fits`)
abbrev pub line_room : ℕ
line_room = 41

-- the log line where there is room for any, from a place on, and nothing where there isn't
unfoldable pub line_in : ℕ → List ℕ → ℕ → Answer → List ℕ
line_in set out at a = cond (leb (at + line_room) (length out)) (log_line set a) []
