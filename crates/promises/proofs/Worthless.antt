-- The four worthless models fail the marked examples, and two of them the FIFO account.
use Prim.Native.Nat.{ℕ, suc}
use mathlib.Core.Path.{◌≡◌, refl, ap}
use mathlib.Core.Bool.{Bool, true, false, ◌||◌}
use lib.Dec.{eqb}
use borrow.Author.Tests.{eqb-true}
use Rattle.laws.proofs.Tests.{and_left, and_right}
use mathlib.Core.List.{List, [], ◌∷◌, head-eq_of_cons-eq}
use native.Mathlib.Omega.{arith}
use lib.ListN.{get_or}
use Rattle.machine.specs.Sides.{pci, addon}
use Rattle.machine.specs.State.{reset_state}
use Rattle.machine.specs.Window.{zero_words}
use Rattle.machine.specs.Examples.{Observed, ok, pci_read, pci_write, addon_read, write_cycle}
use Rattle.promises.specs.Worthless.{RefusingFails, ConstantFails, StillFails, FirstOnlyFails, ConstantBreaks, StillBreaks}
use Rattle.machine.specs.declared.Answer.{Answer}

-- the answer to step j in row i of a table
abbrev answer_at : ℕ → ℕ → List Observed → Answer
answer_at i j rows = get_or (get_or rows i (record { answers = []; words = [] })).answers j ok

-- example 1 is done
pub refusing_fails : RefusingFails
refusing_fails rule h =
    let e : suc (rule reset_state 0 zero_words (pci_read 0x3C)).answer.code ≡ 0 = ap (λ (rows : List Observed). (answer_at 0 0 rows).code) h in omega arith

-- examples 1 and 2 show different data
pub constant_fails : ConstantFails
constant_fails answer rule h =
    let first : answer.value ≡ 0xE6 = ap (λ (rows : List Observed). (answer_at 0 0 rows).value) h in
    let second : answer.value ≡ 0xDF1F = ap (λ (rows : List Observed). (answer_at 1 1 rows).value) h in
    omega arith

-- in example 9 the same cycle answers 13, then 11
pub still_fails : StillFails
still_fails answer h =
    let once : (answer reset_state 0 zero_words write_cycle).code ≡ 13 = ap (λ (rows : List Observed). (answer_at 11 4 rows).code) h in
    let again : (answer reset_state 0 zero_words write_cycle).code ≡ 11 = ap (λ (rows : List Observed). (answer_at 11 5 rows).code) h in
    omega arith

pub first_only_fails : FirstOnlyFails
first_only_fails echo h =
    let once : (echo write_cycle).code ≡ 13 = ap (λ (rows : List Observed). (answer_at 11 4 rows).code) h in
    let again : (echo write_cycle).code ≡ 11 = ap (λ (rows : List Observed). (answer_at 11 5 rows).code) h in
    omega arith

-- a word written and read back is the constant's data, whatever the word
pub constant_breaks : ConstantBreaks
constant_breaks answer rule done h =
    let read : (v : ℕ) → v ≡ answer.value = λ v. head-eq_of_cons-eq (rw done at (h pci 0 [] (pci_write 0x20 v ∷ addon_read 0x20 ∷ []))) in
    omega (arith, read 1, read 2)

-- a word written is not held
not_held : (value : ℕ) → value ∷ [] ≡ [] → ⊥
not_held value e = let z : ◌≡◌ {A = ℕ} 0 1 = cc in omega arith

pub still_breaks : StillBreaks
still_breaks answer start memory s p done h = by (eqb s.kind 1) refl
  where
    port : s.offset ≡ 0x20
    port = eqb-true s.offset 0x20 (and_left (eqb s.offset 0x20) (eqb s.kind 1 || eqb s.kind 3) p)

    by : (b : Bool) → eqb s.kind 1 ≡ b → ⊥
    by true e =
        let k = eqb-true s.kind 1 e in
        not_held s.value (rw (done, k, port) at (h pci start memory (s ∷ [])))
    by false e =
        let three = and_right (eqb s.offset 0x20) (eqb s.kind 1 || eqb s.kind 3) p in
        let k = eqb-true s.kind 3 (rw e at three) in
        not_held s.value (rw (done, k, port) at (h addon start memory (s ∷ [])))
