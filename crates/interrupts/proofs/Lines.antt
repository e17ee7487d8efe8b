-- The line of an interrupt register, by words: each flag beside its enable, or an abort.
use Prim.Native.Nat.{ℕ, ◌+◌, ◌/◌, ◌^◌, ◌≤◌, ◌<◌}
use mathlib.Core.Path.{◌≡◌, refl, sym, ap, ◌∙◌}
use mathlib.Core.Bool.{Bool, true, false, not, ◌&&◌, ◌||◌, and-true, and-false, or-false, true≢false}
use native.Mathlib.Decide.{ℕ_discrete}
use native.Mathlib.Omega.{arith}
use lib.Dec.{eqb}
use lib.Bits.{bit_and, bit_or}
use borrow.Author.Tests.{eq-eqb, ne_eqb}
use Rattle.machine.specs.Words.{bit, flag}
use Rattle.machine.specs.Interrupts.{line_of}
use Rattle.laws.proofs.Tests.{or_left, or_right}
use Rattle.laws.proofs.Bits.{bit_or_lem, bit_and_lem, bit_zero, bit_flag, bit_shr, bit_beyond, by_bits}

abbrev pub standing : ℕ → ℕ
standing i = bit_or (bit_and (bit_or (bit_or (bit_and (i / 2 ^ 12) 0x10) (bit_and (i / 2 ^ 5) 0x1000)) (bit_and (i / 2 ^ 4) 0xC000)) i) (bit_and i 0x300000)

-- the bits of the masks
at_4 : (k : ℕ) → bit 0x10 k ≡ eqb k 4
unfolding flag
at_4 k = bit_flag true 4 k

at_12 : (k : ℕ) → bit 0x1000 k ≡ eqb k 12
unfolding flag
at_12 k = bit_flag true 12 k

at_14_15 : (k : ℕ) → bit 0xC000 k ≡ (eqb k 14 || eqb k 15)
unfolding flag
at_14_15 k = bit_or_lem 0x4000 0x8000 k ∙ (λ i. bit_flag true 14 k i || bit_flag true 15 k i)

at_20_21 : (k : ℕ) → bit 0x300000 k ≡ (eqb k 20 || eqb k 21)
unfolding flag
at_20_21 k = bit_or_lem 0x100000 0x200000 k ∙ (λ i. bit_flag true 20 k i || bit_flag true 21 k i)

abbrev stands_at : ℕ → ℕ → Bool
stands_at i k = (bit i (12 + k) && eqb k 4 || bit i (5 + k) && eqb k 12 || bit i (4 + k) && (eqb k 14 || eqb k 15)) && bit i k || bit i k && (eqb k 20 || eqb k 21)

stands_at_lem : (i k : ℕ) → bit (standing i) k ≡ stands_at i k
stands_at_lem i k = simp (bit_or_lem, bit_and_lem, bit_shr, at_4, at_12, at_14_15, at_20_21)

-- at a place that is none of the six nothing stands
elsewhere : (i k : ℕ) → (k ≡ 4 → ⊥) → (k ≡ 12 → ⊥) → (k ≡ 14 → ⊥) → (k ≡ 15 → ⊥) → (k ≡ 20 → ⊥) → (k ≡ 21 → ⊥) → stands_at i k ≡ false
elsewhere i k a b c d e f = simp (ne_eqb k 4 a, ne_eqb k 12 b, ne_eqb k 14 c, ne_eqb k 15 d, ne_eqb k 20 e, ne_eqb k 21 f, and-false)

-- at each of them what the line asks for
pub record Stand (i : ℕ) : Type 0 where
  pub outgoing : (bit i 16 && bit i 4) ≡ false
  pub incoming : (bit i 17 && bit i 12) ≡ false
  pub write : (bit i 18 && bit i 14) ≡ false
  pub read : (bit i 19 && bit i 15) ≡ false
  pub master : bit i 20 ≡ false
  pub target : bit i 21 ≡ false

nothing_at : (i : ℕ) → Stand i → (k : ℕ) → stands_at i k ≡ false
nothing_at i s k = go (ℕ_discrete k 4) (ℕ_discrete k 12) (ℕ_discrete k 14) (ℕ_discrete k 15) (ℕ_discrete k 20) (ℕ_discrete k 21)
  where
    go : Dec (k ≡ 4) → Dec (k ≡ 12) → Dec (k ≡ 14) → Dec (k ≡ 15) → Dec (k ≡ 20) → Dec (k ≡ 21) → stands_at i k ≡ false
    go (yes e) b c d f g = rw e (simp (and-true, and-false, or-false, s.outgoing))
    go (no a) (yes e) c d f g = rw e (simp (and-true, and-false, or-false, s.incoming))
    go (no a) (no b) (yes e) d f g = rw e (simp (and-true, and-false, or-false, s.write))
    go (no a) (no b) (no c) (yes e) f g = rw e (simp (and-true, and-false, or-false, s.read))
    go (no a) (no b) (no c) (no d) (yes e) g = rw e (simp (and-true, and-false, or-false, s.master))
    go (no a) (no b) (no c) (no d) (no f) (yes e) = rw e (simp (and-true, and-false, or-false, s.target))
    go (no a) (no b) (no c) (no d) (no f) (no g) = elsewhere i k a b c d f g

-- no line, and nothing stands
no_line : (i : ℕ) → Stand i → line_of i ≡ false
unfolding line_of
no_line i s = rw (s.outgoing, s.incoming, s.write, s.read, s.master, s.target)

none_stands : (i : ℕ) → Stand i → standing i ≡ 0
none_stands i s = by_bits (standing i) 0 (λ k. stands_at_lem i k ∙ nothing_at i s k ∙ sym (bit_zero k))

-- and each way back
by_none : (i : ℕ) → standing i ≡ 0 → Stand i
by_none i e =
    let z : (k : ℕ) → stands_at i k ≡ false = λ k. sym (stands_at_lem i k) ∙ ap (λ m. bit m k) e ∙ bit_zero k in
    record {
      outgoing = simp (and-true, and-false, or-false) at (z 4);
      incoming = simp (and-true, and-false, or-false) at (z 12);
      write = simp (and-true, and-false, or-false) at (z 14);
      read = simp (and-true, and-false, or-false) at (z 15);
      master = simp (and-true, and-false, or-false) at (z 20);
      target = simp (and-true, and-false, or-false) at (z 21);
    }

five : (a b c d e f : Bool) → (a || b || c || d || (e || f)) ≡ false → (a ≡ false) × ((b ≡ false) × ((c ≡ false) × ((d ≡ false) × ((e ≡ false) × (f ≡ false)))))
five true b c d e f h = absurd (true≢false h)
five false true c d e f h = absurd (true≢false h)
five false false true d e f h = absurd (true≢false h)
five false false false true e f h = absurd (true≢false h)
five false false false false true f h = absurd (true≢false h)
five false false false false false true h = absurd (true≢false h)
five false false false false false false h = (refl, (refl, (refl, (refl, (refl, refl)))))

by_line : (i : ℕ) → line_of i ≡ false → Stand i
unfolding line_of
by_line i h =
    let p = five (bit i 16 && bit i 4) (bit i 17 && bit i 12) (bit i 18 && bit i 14) (bit i 19 && bit i 15) (bit i 20) (bit i 21) h in
    record { outgoing = p.0; incoming = p.1.0; write = p.1.1.0; read = p.1.1.1.0; master = p.1.1.1.1.0; target = p.1.1.1.1.1 }

pub line_stands : (i : ℕ) → not (eqb (standing i) 0) ≡ line_of i
line_stands i = by (line_of i) refl
  where
    by : (b : Bool) → line_of i ≡ b → not (eqb (standing i) 0) ≡ b
    by true e = rw (ne_eqb (standing i) 0 (λ z. true≢false (sym e ∙ no_line i (by_none i z))))
    by false e = rw (eq-eqb (standing i) 0 (none_stands i (by_line i e)))

-- without a flag there is no line: in a word below the lowest one, and in two words of which that holds joined
none_high : (i : ℕ) → ((k : ℕ) → 16 ≤ k → bit i k ≡ false) → line_of i ≡ false
unfolding line_of
none_high i none = simp (none 16 (omega arith), none 17 (omega arith), none 18 (omega arith), none 19 (omega arith), none 20 (omega arith), none 21 (omega arith))

pub none_below : (i : ℕ) → i < 2 ^ 16 → line_of i ≡ false
none_below i h = none_high i (λ k e. bit_beyond 16 k i h e)

pub neither_below : (a b : ℕ) → bit_or a b < 2 ^ 16 → (line_of a ≡ false) × (line_of b ≡ false)
neither_below a b h =
    let z : (k : ℕ) → 16 ≤ k → (bit a k || bit b k) ≡ false = λ k e. sym (bit_or_lem a b k) ∙ bit_beyond 16 k (bit_or a b) h e in
    (none_high a (λ k e. or_left (bit a k) (bit b k) (z k e)), none_high b (λ k e. or_right (bit a k) (bit b k) (z k e)))
