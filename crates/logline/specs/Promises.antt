-- What is promised of labels and log lines.
use Rattle.std.specs.Prelude.{ℕ, ◌+◌, ◌≤◌, ◌<◌, ◌≡◌, List, [], Bool, true, ◌&&◌, ◌||◌, length, get_or, eqb, leb, ltb}
use Rattle.machine.specs.Event.{logged}
use Rattle.machine.specs.declared.Answer.{Answer}
use Rattle.hex_digits.specs.Hex.{bytes}
use Rattle.logline.specs.Labels.{is_set, label_of}
use Rattle.logline.specs.LogLine.{log_line, refusal, line_in}

-- `labels_short`: no label is above 18 bytes, in any set
abbrev pub LabelsShort : Type 0
LabelsShort = (set code : ℕ) → length (label_of set code) ≤ 18

-- `labels_there`: a set has a label that isn't empty for each code from 0 to 19 and for 24, and for no other number
abbrev pub LabelsThere : Type 0
LabelsThere = (set code : ℕ) → is_set set ≡ true → ltb 0 (length (label_of set code)) ≡ (ltb code 20 || eqb code 24)

-- `labels_differ`: no two of a set are alike
abbrev pub LabelsDiffer : Type 0
LabelsDiffer = (set code other : ℕ) → is_set set ≡ true → 0 < length (label_of set code) → label_of set code ≡ label_of set other → code ≡ other

-- a letter, a digit or a sign of ASCII, or a space
abbrev pub is_plain : ℕ → Bool
is_plain b = leb 32 b && ltb b 127

-- `labels_plain`: plain ASCII, byte for byte
abbrev pub LabelsPlain : Type 0
LabelsPlain = (set code at : ℕ) → at < length (label_of set code) → is_plain (get_or (label_of set code) at 0) ≡ true

-- `line_fits`: 41 bytes are enough for any log line
abbrev pub LineFits : Type 0
LineFits = (set : ℕ) (a : Answer) → length (log_line set a) ≤ 41

-- `line_room_lem`: with 41 bytes from the place on `put_line` writes the log line, with fewer nothing
abbrev pub LineRoom : Type 0
LineRoom =
    (set : ℕ) (out : List ℕ) (at : ℕ) (a : Answer)
    → (at + 41 ≤ length out → line_in set out at a ≡ log_line set a) × (length out < at + 41 → line_in set out at a ≡ [])

-- `marks_unlogged`: the log does not show which marks changed: answers that are else alike have one log line
abbrev pub MarksUnlogged : Type 0
MarksUnlogged = (set : ℕ) (a b : Answer) → logged a ≡ logged b → log_line set a ≡ log_line set b

-- `refusal_line`: the line that refuses an unknown set, byte for byte
abbrev pub RefusalLine : Type 0
RefusalLine = refusal ≡ bytes "0F0000000000000000000 unknown label set\n"
