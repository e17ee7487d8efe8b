-- A test that every byte of some list passes: of lists joined, and of the numbers of a log line.
use Prim.Native.Nat.{ℕ, zero, suc, ◌/◌, ◌%◌}
use mathlib.Core.Path.{◌≡◌, refl}
use mathlib.Core.Bool.{Bool, true, cond}
use mathlib.Core.List.{List, [], ◌∷◌, ◌++◌}
use native.Mathlib.Omega.{arith}
use Rattle.machine.specs.declared.Answer.{Answer}
use Rattle.hex_digits.specs.Hex.{digit_of, digits}
use Rattle.laws.proofs.Below.{both, below, below_at}
use Rattle.logline.specs.LogLine.{numbers}
use Rattle.logline.proofs.Labels.{every}

module _ (test : ℕ → Bool) where
  pub every_append : (xs ys : List ℕ) → every test xs ≡ true → every test ys ≡ true → every test (xs ++ ys) ≡ true
  every_append [] ys e f = f
  every_append (x ∷ xs) ys e f =
      let parts = both (test x) (every test xs) e in
      rw parts.0 (every_append xs ys parts.1 f)

  module _ (all : below (λ k. test (digit_of k)) 16 ≡ true) where
    pub every-digits : (n x : ℕ) → every test (digits n x) ≡ true
    unfolding digits
    every-digits zero x = refl
    every-digits (suc n) x = every_append (digits n (x / 16)) (digit_of (x % 16) ∷ []) (every-digits n (x / 16)) (rw (below_at (λ k. test (digit_of k)) 16 (x % 16) all (omega arith)))

    pub every-number : (a : Answer) → every test (numbers a) ≡ true
    unfolding numbers
    every-number a =
        let c = digits 2 a.code in
        let d = digits 8 a.address in
        let v = digits 8 a.value in
        let n = digits 1 a.enables in
        let l = digits 1 (cond a.line 1 0) in
        let address = every_append c d (every-digits 2 a.code) (every-digits 8 a.address) in
        let value = every_append (c ++ d) v address (every-digits 8 a.value) in
        let enables = every_append (c ++ d ++ v) n value (every-digits 1 a.enables) in
        let line = every_append (c ++ d ++ v ++ n) l enables (every-digits 1 (cond a.line 1 0)) in
        every_append (c ++ d ++ v ++ n ++ l) (digits 1 (cond a.addon_line 1 0)) line (every-digits 1 (cond a.addon_line 1 0))
