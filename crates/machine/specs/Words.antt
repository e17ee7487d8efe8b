-- Words, bytes and bits. A step and its answer: an access touches byte i where bit i of its enables is one (on the bus it would be zero).
use Rattle.std.specs.Prelude.{ℕ, suc, ◌+◌, ◌-◌, ◌*◌, ◌/◌, ◌%◌, ◌^◌, Bool, false, cond, ◌||◌, List, [], ◌∷◌, eqb}
use Rattle.std.specs.Int.Bits.{bit_and, bit_or}

-- bit k of x
unfoldable pub bit : ℕ → ℕ → Bool
bit x k = eqb (x / 2 ^ k % 2) 1

-- whether one of some tests holds
abbrev pub any_of : List Bool → Bool
any_of [] = false
any_of (b ∷ bs) = b || any_of bs

-- ones at bits low to high, zeros elsewhere
abbrev pub ones : ℕ → ℕ → ℕ
ones low high = 2 ^ suc high - 2 ^ low

-- one at bit k if on, else zero
unfoldable pub flag : Bool → ℕ → ℕ
flag on k = cond on (2 ^ k) 0

-- ones at byte i if enable bit i is set
unfoldable pub byte_mask : ℕ → ℕ → ℕ
byte_mask enables i = cond (bit enables i) (ones (8 * i) (8 * i + 7)) 0

-- ones at the enabled bytes of a word
unfoldable pub mask : ℕ → ℕ
mask enables = bit_or (bit_or (bit_or (byte_mask enables 0) (byte_mask enables 1)) (byte_mask enables 2)) (byte_mask enables 3)

-- the word x with zeros where the word y has ones
unfoldable pub cleared : ℕ → ℕ → ℕ
cleared x y = bit_and x (ones 0 31 - y)

-- x with bit k set, if on
unfoldable pub raised : ℕ → Bool → ℕ → ℕ
raised x on k = cond on (bit_or x (2 ^ k)) x

-- the enabled bytes of x, zero at the others: what a read cycle takes of a memory word, a write of its data; a read answers whole words (Ask 6)
unfoldable pub shown : ℕ → ℕ → ℕ
shown x enables = bit_and x (mask enables)

-- Register offsets: a write reaches the enabled bytes, which are those of new; the others stay those of old
unfoldable pub merged : ℕ → ℕ → ℕ → ℕ
merged old new enables = bit_or (cleared old (mask enables)) (shown new enables)

-- a write to a register that keeps the bits where keeps has ones
unfoldable pub written : ℕ → ℕ → ℕ → ℕ → ℕ
written keeps old new enables = bit_and (merged old new enables) keeps

-- x holds no bit other than those where y has ones
unfoldable pub only : ℕ → ℕ → Bool
only y x = eqb (bit_and x y) x
