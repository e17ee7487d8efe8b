-- A step and its answer: host memory, a run of words with a start address.
use Rattle.std.specs.Prelude.{ℕ, ◌+◌, ◌-◌, ◌/◌, ◌%◌, ◌^◌, Bool, not, ◌||◌, List, eqb, ltb, replicate}

-- a minus b, modulo 2^32
abbrev pub minus : ℕ → ℕ → ℕ
minus a b = (a + (2 ^ 32 - b % 2 ^ 32)) % 2 ^ 32

-- a word's place in the run: how many whole words its address lies past the start, counted round 2^32
unfoldable pub place_of : ℕ → ℕ → ℕ
place_of start address = minus address start / 4

-- the address has a place in a run of so many words; so a window may wrap, and one of no words has no address
abbrev pub inside : ℕ → ℕ → ℕ → Bool
inside start words address = ltb (place_of start address) words

-- code 2: the start is no multiple of 4, or there are more than 16,384 words; to have none is no fault
unfoldable pub is_window_out_of_form : ℕ → ℕ → Bool
is_window_out_of_form start words = not (eqb (start % 4) 0) || ltb 16384 words

-- the memory with which the log program, the C call and the marked examples begin; it starts at address 0
abbrev pub zero_words : List ℕ
zero_words = replicate 4096 0
