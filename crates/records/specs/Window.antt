-- A memory window as bytes, each word's lowest first; and the place of an address among them. Form and start are the machine's.
use Rattle.std.specs.Prelude.{ℕ, ◌+◌, ◌*◌, ◌/◌, ◌%◌, List, [], ◌∷◌}
use Rattle.machine.specs.Window.{minus}

-- the bytes of words
unfoldable pub window_bytes : List ℕ → List ℕ
window_bytes [] = []
window_bytes (w ∷ ws) = w % 256 ∷ w / 256 % 256 ∷ w / 65536 % 256 ∷ w / 16777216 % 256 ∷ window_bytes ws

-- the words of bytes, four to a word
unfoldable pub window_words : List ℕ → List ℕ
window_words (a ∷ b ∷ c ∷ d ∷ bs) = (a + 256 * b + 65536 * c + 16777216 * d) ∷ window_words bs
window_words (a ∷ b ∷ c ∷ []) = []
window_words (a ∷ b ∷ []) = []
window_words (a ∷ []) = []
window_words [] = []

-- how many bytes an address lies past the start, counted round 2^32; a quarter of it is the word's place, `machine`'s `place_of`
abbrev pub byte_place : ℕ → ℕ → ℕ
byte_place start address = minus address start
