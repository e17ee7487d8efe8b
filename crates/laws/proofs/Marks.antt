-- The marks one by one, and the mailbox words one by one, after a done step.
use Prim.Native.Nat.{ℕ, ◌-◌, ◌*◌, ◌/◌, ◌%◌, ◌^◌, ◌<◌, ◌≤◌}
use mathlib.Core.Path.{◌≡◌, refl, sym, ap, ◌∙◌}
use mathlib.Core.Bool.{Bool, true, false, cond, not, ◌&&◌, true≢false}
use native.Mathlib.Omega.{arith}
use native.Mathlib.Nat.{mul-le-mul, pow-le-pow_right}
use lib.Dec.{eqb, leb, ltb}
use lib.Bits.{bit_and, bit_xor}
use borrow.Author.Tests.{eqb-true, eqb-false, leb-true, le-leb, lt-ltb, le-ltb, ltb-true}
use Rattle.machine.specs.Words.{bit}
use Rattle.machine.specs.Offsets.{is_mailbox}
use Rattle.machine.specs.Access.{Access}
use Rattle.machine.specs.Commands.{clears_marks}
use Rattle.machine.specs.Mailboxes.{marks_at, fills, takes, changes, marks_after}
use Rattle.laws.proofs.Tests.{and_left, and_right, cond_part}
use Rattle.laws.proofs.Bits.{bit_and_lem, bit_xor_lem, bit_shl, bit_low, bit_zero}

-- an owner's write, and the other side's read, of byte k of the status: that byte enabled
abbrev pub fills_byte : ℕ → Access → Bool
fills_byte k x = fills x && bit (marks_at x.offset x.enables) k

abbrev pub takes_byte : ℕ → Access → Bool
takes_byte k x = takes x && bit (marks_at x.offset x.enables) k

-- the marks of a mailbox's enabled bytes: byte k of the status is byte k % 4 of the mailbox at k / 4 * 4
pub bit_marks : (o e k : ℕ) → is_mailbox o ≡ true → bit (marks_at o e) k ≡ (eqb o (k / 4 * 4) && bit e (k % 4))
unfolding marks_at
bit_marks o e k m =
    bit_shl (e % 16) o k ∙ ap (λ (b : Bool). leb o k && b) (bit_low 4 e (k - o)) ∙ at (eqb o (k / 4 * 4)) refl (leb o k) refl
  where
    four : o % 4 ≡ 0
    four = eqb-true (o % 4) 0 (and_right (ltb o 0x20) (eqb (o % 4) 0) m)

    at : (b : Bool) → eqb o (k / 4 * 4) ≡ b → (c : Bool) → leb o k ≡ c → (c && (ltb (k - o) 4 && bit e (k - o))) ≡ (b && bit e (k % 4))
    at true q true p =
        let i = eqb-true o (k / 4 * 4) q in
        let j : k - o ≡ k % 4 = omega arith in
        rw (j, lt-ltb (k % 4) 4 (omega arith))
    at true q false p = let i = eqb-true o (k / 4 * 4) q in absurd (true≢false (sym (le-leb o k (omega arith)) ∙ p))
    at false q true p =
        let l = leb-true o k p in
        let far : 4 ≤ k - o = omega (arith, eqb-false o (k / 4 * 4) q, four) in
        rw (le-ltb (k - o) 4 far)
    at false q false p = refl

pub marks_lt : (o e : ℕ) → is_mailbox o ≡ true → marks_at o e < 2 ^ 32
unfolding marks_at
marks_lt o e m =
    let l = ltb-true o 0x20 (and_left (ltb o 0x20) (eqb (o % 4) 0) m) in
    let z = eqb-true (o % 4) 0 (and_right (ltb o 0x20) (eqb (o % 4) 0) m) in
    let p : 2 ^ o ≤ 2 ^ 28 = pow-le-pow_right {n = 2} (omega arith) {i = o} {j = 28} (omega arith) in
    let q : e % 16 * 2 ^ o ≤ 15 * 2 ^ 28 = mul-le-mul {n₁ = e % 16} {n₂ = 15} (omega arith) p in
    omega arith

-- ---- the marks that an access changes, one by one

by_tests : (f t at b : Bool) → cond f (at && cond b (not at) at) (cond t (at && b) false) ≡ cond (f && at) (not b) (t && at && b)
by_tests true t true true = refl
by_tests true t true false = refl
by_tests true true false b = refl
by_tests true false false b = refl
by_tests false true true b = refl
by_tests false true false b = refl
by_tests false false at b = refl

-- its owner's write changes the mark of an empty byte, the other side's read that of a full one
pub change_at : (k : ℕ) (x : Access) (marks : ℕ) → bit (changes x marks) k ≡ cond (fills_byte k x) (not (bit marks k)) (takes_byte k x && bit marks k)
unfolding changes
change_at k x marks =
    let m = marks_at x.offset x.enables in
    let P : ℕ → Bool = λ w. bit w k in
    cond_part P (fills x) _ _
    ∙ (λ i. cond (fills x) (bit_and_lem m (bit_xor m marks) k i) (cond_part P (takes x) (bit_and m marks) 0 i))
    ∙ (λ i. cond (fills x) (bit m k && bit_xor_lem m marks k i) (cond (takes x) (bit_and_lem m marks k i) (bit_zero k i)))
    ∙ by_tests (fills x) (takes x) (bit m k) (bit marks k)

-- a mark after a done step that is no reset: a clear empties it, its owner's write fills it, the other side's read empties it
turned : (f t b : Bool) → cond (cond f (not b) (t && b)) (not b) b ≡ cond f true (cond t false b)
turned true t true = refl
turned true t false = refl
turned false true true = refl
turned false true false = refl
turned false false b = refl

pub mark_after : (k : ℕ) → k < 32 → (x : Access) (marks : ℕ)
    → bit (marks_after x marks) k ≡ cond (clears_marks x) false (cond (fills_byte k x) true (cond (takes_byte k x) false (bit marks k)))
unfolding marks_after
mark_after k h x marks =
    cond_part (λ w. bit w k) (clears_marks x) 0 _
    ∙ (λ i. cond (clears_marks x) (bit_zero k i) (bit_xor_lem marks (changes x marks) k i))
    ∙ rw (change_at k x marks) (ap (λ b. cond (clears_marks x) false b) (turned (fills_byte k x) (takes_byte k x) (bit marks k)))
