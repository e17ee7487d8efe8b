-- The labels of the codes, in each language a set (document 02, Ask 1). The number is the key; the label only stands after it in a log line.
use Rattle.std.specs.Prelude.{ℕ, List, [], ◌∷◌, Bool, cond, length, get_or, eqb, ltb}
use Rattle.hex_digits.specs.Hex.{bytes}

-- A set is a table, with a row for each code that has a label: 0 to 13, which answer a step, 14 a line that is no frame, 15 an unknown set, 16 to 19
-- the load of a HEX text, 24 its export (Ask 7).
unfoldable pub english : List (ℕ × List ℕ)
english =
    (0, bytes "done")
    ∷ (1, bytes "state out of form")
    ∷ (2, bytes "window out of form")
    ∷ (3, bytes "unknown step")
    ∷ (4, bytes "unknown offset")
    ∷ (5, bytes "bad enables")
    ∷ (6, bytes "part FIFO access")
    ∷ (7, bytes "read-only register")
    ∷ (8, bytes "FIFO full or empty")
    ∷ (9, bytes "transfer off")
    ∷ (10, bytes "count is zero")
    ∷ (11, bytes "abort stands")
    ∷ (12, bytes "FIFO not ready")
    ∷ (13, bytes "no memory there")
    ∷ (14, bytes "not a frame line")
    ∷ (15, bytes "unknown label set")
    ∷ (16, bytes "not a HEX record")
    ∷ (17, bytes "wrong sum")
    ∷ (18, bytes "outside the window")
    ∷ (19, bytes "no end or not last")
    ∷ (24, bytes "output too short")
    ∷ []

unfoldable pub german : List (ℕ × List ℕ)
german =
    (0, bytes "erledigt")
    ∷ (1, bytes "Zustand ungueltig")
    ∷ (2, bytes "Fenster ungueltig")
    ∷ (3, bytes "Schritt unbekannt")
    ∷ (4, bytes "Offset unbekannt")
    ∷ (5, bytes "Freigabe ungueltig")
    ∷ (6, bytes "FIFO-Teilzugriff")
    ∷ (7, bytes "nur lesbar")
    ∷ (8, bytes "FIFO voll/leer")
    ∷ (9, bytes "Transfer aus")
    ∷ (10, bytes "Zaehler ist null")
    ∷ (11, bytes "Abbruch steht an")
    ∷ (12, bytes "FIFO nicht bereit")
    ∷ (13, bytes "kein Speicher dort")
    ∷ (14, bytes "keine Rahmenzeile")
    ∷ (15, bytes "Textsatz unbekannt")
    ∷ (16, bytes "kein HEX-Satz")
    ∷ (17, bytes "Summe falsch")
    ∷ (18, bytes "nicht im Fenster")
    ∷ (19, bytes "Ende fehlt/frueh")
    ∷ (24, bytes "Ausgabe zu kurz")
    ∷ []

-- a set's number is its place here: 00 English, 01 German
unfoldable pub label_sets : List (List (ℕ × List ℕ))
label_sets = english ∷ german ∷ []

-- the set in which an unknown set is refused
abbrev pub english_set : ℕ
english_set = 0

unfoldable pub is_set : ℕ → Bool
is_set set = ltb set (length label_sets)

-- the label in a code's row, no bytes where it has none
unfoldable pub label_in : List (ℕ × List ℕ) → ℕ → List ℕ
label_in [] code = []
label_in (r ∷ rs) code = cond (eqb r.0 code) r.1 (label_in rs code)

-- no bytes for a number that no set has
unfoldable pub label_of : ℕ → ℕ → List ℕ
label_of set code = label_in (get_or label_sets set []) code
