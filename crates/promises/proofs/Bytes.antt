-- The bits of masks, shown, merged and written words, and the bytes of merged ones.
use Prim.Native.Nat.{ℕ, zero, suc, ◌+◌, ◌-◌, ◌*◌, ◌/◌, ◌%◌, ◌^◌, ◌<◌}
use mathlib.Core.Path.{◌≡◌, refl, sym, ap, ◌∙◌}
use mathlib.Core.Bool.{Bool, true, false, cond, not, ◌&&◌, ◌||◌, and-true, and-false, and_comm, or-false}
use mathlib.Core.List.{List, [], ◌∷◌, head-eq_of_cons-eq, tail-eq_of_cons-eq}
use native.Mathlib.Nat.{div-div-eq-div-mul}
use native.Mathlib.Omega.{arith}
use lib.Dec.{eqb, ltb}
use lib.Bits.{or_lt, and_le_r}
use borrow.Author.Tests.{eqb-true, eqb-false, ltb-true}
use Rattle.machine.specs.Words.{bit, ones, byte_mask, mask, cleared, shown, merged, written}
use Rattle.promises.specs.Account.{byte_of, word_of}
use Rattle.laws.proofs.Bits.{bit_or_lem, bit_and_lem, bit_zero, bit_cleared, bit_ones, bit_low, bit_shr, by_bits}
use Rattle.laws.proofs.Tests.{cond_part}

-- two tests agree below n if they agree on each: by computation for tests of numbers
abbrev pub listed : ℕ → (ℕ → Bool) → List Bool
listed zero f = []
listed (suc n) f = f n ∷ listed n f

pub agree : (n : ℕ) (f g : ℕ → Bool) → listed n f ≡ listed n g → (k : ℕ) → k < n → f k ≡ g k
agree zero f g e k h = absurd (omega arith)
agree (suc n) f g e k h = at (eqb k n) refl (λ l. agree n f g (tail-eq_of_cons-eq e) k l)
  where
    at : (b : Bool) → eqb k n ≡ b → (k < n → f k ≡ g k) → f k ≡ g k
    at true q r = rw (eqb-true k n q) (head-eq_of_cons-eq e)
    at false q r = r (omega (arith, eqb-false k n q))

byte_bit : (i full k : ℕ) → listed 32 (bit full) ≡ listed 32 (λ j. eqb (j / 8) i) → k < 32 → (b : Bool) → bit (cond b full 0) k ≡ (b && eqb (k / 8) i)
byte_bit i full k e h true = agree 32 (bit full) (λ j. eqb (j / 8) i) e k h
byte_bit i full k e h false = bit_zero k

pick : (f : ℕ → Bool) (q : ℕ) → q < 4 → (f 0 && eqb q 0 || f 1 && eqb q 1 || f 2 && eqb q 2 || f 3 && eqb q 3) ≡ f q
pick f zero h = simp (and-true, and-false, or-false)
pick f (suc zero) h = simp (and-true, and-false, or-false)
pick f (suc (suc zero)) h = simp (and-true, and-false, or-false)
pick f (suc (suc (suc zero))) h = simp (and-true, and-false)
pick f (suc (suc (suc (suc q)))) h = absurd (omega arith)

byte_lt : (b : Bool) (full : ℕ) → full < 2 ^ 32 → cond b full 0 < 2 ^ 32
byte_lt true full p = p
byte_lt false full p = omega arith

mask_lt : (e : ℕ) → mask e < 2 ^ 32
unfolding mask byte_mask
mask_lt e =
    or_lt 32 _ _
    (or_lt 32 _ _
    (or_lt 32 _ _ (byte_lt (bit e 0) (ones 0 7) (omega arith)) (byte_lt (bit e 1) (ones 8 15) (omega arith)))
    (byte_lt (bit e 2) (ones 16 23) (omega arith)))
    (byte_lt (bit e 3) (ones 24 31) (omega arith))

pub shown_lt : (x e : ℕ) → shown x e < 2 ^ 32
unfolding shown
shown_lt x e = omega (arith, and_le_r x (mask e), mask_lt e)

cleared_lt : (x y : ℕ) → cleared x y < 2 ^ 32
unfolding cleared
cleared_lt x y = omega (arith, and_le_r x (ones 0 31 - y))

merged_lt : (old new e : ℕ) → merged old new e < 2 ^ 32
unfolding merged
merged_lt old new e = or_lt 32 _ _ (cleared_lt old (mask e)) (shown_lt new e)

module _ (k : ℕ) (h : k < 32) where
  pub bit_mask : (e : ℕ) → bit (mask e) k ≡ bit e (k / 8)
  unfolding mask byte_mask bit
  bit_mask e =
      simp bit_or_lem
      (λ i. byte_bit 0 (ones 0 7) k refl h (bit e 0) i || byte_bit 1 (ones 8 15) k refl h (bit e 1) i || byte_bit 2 (ones 16 23) k refl h (bit e 2) i || byte_bit 3 (ones 24 31) k refl h (bit e 3) i)
      ∙ pick (bit e) (k / 8) (omega arith)

  choose : (m o n : Bool) → (o && not m || n && m) ≡ cond m n o
  choose true o n = simp (and-false, and-true)
  choose false o n = simp (and-false, and-true, or-false)

  pub bit-shown : (x e : ℕ) → bit (shown x e) k ≡ (bit x k && bit e (k / 8))
  unfolding shown
  bit-shown x e = simp (bit_and_lem, bit_mask)

  pub bit-merged : (old new e : ℕ) → bit (merged old new e) k ≡ cond (bit e (k / 8)) (bit new k) (bit old k)
  unfolding merged
  bit-merged old new e = simp (bit_or_lem, bit-shown, bit_cleared old (mask e) k (mask_lt e) h, bit_mask) (choose (bit e (k / 8)) (bit old k) (bit new k))

  pub bit-written : (keeps old new e : ℕ) → bit (written keeps old new e) k ≡ (cond (bit e (k / 8)) (bit new k) (bit old k) && bit keeps k)
  unfolding written
  bit-written keeps old new e = simp (bit_and_lem, bit-merged)

-- ---- the bytes of a merged word

bit_byte : (i word j : ℕ) → bit (byte_of i word) j ≡ (ltb j 8 && bit word (8 * i + j))
bit_byte i word j = bit_low 8 (word / 2 ^ (8 * i)) j ∙ ap (λ (b : Bool). ltb j 8 && b) (bit_shr word (8 * i) j)

pub byte_merged : (i : ℕ) → i < 4 → (old new e : ℕ) → byte_of i (merged old new e) ≡ cond (bit e i) (byte_of i new) (byte_of i old)
byte_merged i h old new e =
    by_bits _ _
    (λ j.
    bit_byte i (merged old new e) j ∙ at j (ltb j 8) refl
    ∙ sym (cond_part (λ (w : ℕ). bit w j) (bit e i) (byte_of i new) (byte_of i old) ∙ (λ d. cond (bit e i) (bit_byte i new j d) (bit_byte i old j d))))
  where
    same : (c : Bool) → false ≡ cond c false false
    same true = refl
    same false = refl

    at : (j : ℕ) (b : Bool) → ltb j 8 ≡ b
        → (b && bit (merged old new e) (8 * i + j)) ≡ cond (bit e i) (b && bit new (8 * i + j)) (b && bit old (8 * i + j))
    at j true q =
        let l = ltb-true j 8 q in
        let d : (8 * i + j) / 8 ≡ i = omega arith in
        bit-merged (8 * i + j) (omega arith) old new e ∙ rw d
    at j false q = same (bit e i)

-- a word is its bytes
word_bytes : (w : ℕ) → w < 2 ^ 32 → w ≡ word_of (λ i. byte_of i w)
word_bytes w h = join (w / 2 ^ 8) (w / 2 ^ 16) (w / 2 ^ 24) (omega arith) (next (2 ^ 8)) (next (2 ^ 16)) (omega arith)
  where
    -- one byte further on
    next : (n : ℕ) → w / n ≡ w / n % 2 ^ 8 + w / (n * 2 ^ 8) * 2 ^ 8
    next n = omega (arith, div-div-eq-div-mul w n (2 ^ 8))

    join : (p q r : ℕ) → w ≡ w % 2 ^ 8 + p * 2 ^ 8 → p ≡ p % 2 ^ 8 + q * 2 ^ 8 → q ≡ q % 2 ^ 8 + r * 2 ^ 8 → r < 2 ^ 8
        → w ≡ w / 1 % 2 ^ 8 + p % 2 ^ 8 * 2 ^ 8 + q % 2 ^ 8 * 2 ^ 16 + r % 2 ^ 8 * 2 ^ 24
    join p q r a b c d = omega arith

-- so a merged word is each byte of the one or of the other
pub merged_bytes : (old new e : ℕ) → merged old new e ≡ word_of (λ i. cond (bit e i) (byte_of i new) (byte_of i old))
merged_bytes old new e =
    let byte : (i : ℕ) → i < 4 → byte_of i (merged old new e) ≡ cond (bit e i) (byte_of i new) (byte_of i old) = λ i h. byte_merged i h old new e in
    word_bytes (merged old new e) (merged_lt old new e)
    ∙ (λ j. byte 0 (omega arith) j + byte 1 (omega arith) j * 2 ^ 8 + byte 2 (omega arith) j * 2 ^ 16 + byte 3 (omega arith) j * 2 ^ 24)

-- and one that is written to a register of n bits is its lowest n
pub written_low : (n old new e : ℕ) → written (2 ^ n - 1) old new e ≡ merged old new e % 2 ^ n
unfolding written
written_low n old new e =
    by_bits _ _
    (λ k.
    bit_and_lem (merged old new e) (2 ^ n - 1) k ∙ ap (λ (b : Bool). bit (merged old new e) k && b) (bit_ones n k) ∙ and_comm (bit (merged old new e) k) (ltb k n)
    ∙ sym (bit_low n (merged old new e) k))
