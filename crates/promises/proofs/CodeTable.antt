-- The code of every step, by numbers: the table's tests are the machine's, one by one.
use Prim.Native.Nat.{ℕ, zero, suc, ◌-◌, ◌%◌, ◌^◌}
use mathlib.Core.Path.{◌≡◌, refl, sym, ap, ◌∙◌}
use mathlib.Core.Bool.{Bool, true, false, cond, not, ◌&&◌, ◌||◌, and-false, and-or_distrib_left}
use mathlib.Core.List.{List, [], ◌∷◌}
use native.Mathlib.Omega.{arith}
use lib.Dec.{eqb, leb, ltb}
use lib.Bits.{bit_and, bit_or, and_zero_r}
use lib.ListN.{length}
use borrow.Author.Tests.{eqb-true, eq-eqb, ne_eqb, leb-true, leb-false}
use Rattle.machine.specs.Words.{bit, flag, any_of, only}
use Rattle.machine.specs.Sides.{pci, addon}
use Rattle.machine.specs.State.{State, Lane}
use Rattle.machine.specs.Access.{kind_of, access_of, is_access, cycles}
use Rattle.machine.specs.Window.{place_of, is_window_out_of_form}
use Rattle.machine.specs.Rights.{ends}
use Rattle.machine.specs.Code.{code_of, is_out_of_form, is_unknown_offset, has_bad_enables, is_part_fifo_access, is_read_only_write, is_full_or_empty, is_transfer_off, is_count_zero, is_abort_standing, is_not_ready, is_no_memory}
use Rattle.machine.specs.Step.{step_of, respond, answered}
use Rattle.machine.specs.declared.Step.{Step}
use Rattle.promises.specs.Readings.{is_one_of, is_access_kind}
use Rattle.promises.specs.CodeTable.{first_that, bits_at, intcsr_bits, mcsr_bits, aint_bits, holds_other, is_aborted, is_read_ended, is_write_ended, is_lane_wrong, is_state_wrong, of_cycles, is_outside, code_table, step_codes, CodeRule, FirstCode, EveryCode, Numbered}
use Rattle.laws.proofs.Tests.{any_four, any_five}
use Rattle.laws.proofs.Bits.{bit_and_lem, bit_or_lem, bit_flag, by_bits}
use Rattle.laws.proofs.KindNumbers.{named}
use Rattle.promises.proofs.First.{all_of, every_of, first_of}
use Rattle.promises.proofs.Answers.{offset_table, ready_rule}

-- ---- code 1: bits at places, against a mask

abbrev mask_of : List ℕ → ℕ
mask_of [] = 0
mask_of (k ∷ ks) = bit_or (2 ^ k) (mask_of ks)

one_place : (x k : ℕ) → bit_and x (2 ^ k) ≡ cond (bit x k) (2 ^ k) 0
unfolding flag
one_place x k = by_bits _ _ (λ j. bit_and_lem x (2 ^ k) j ∙ ap (λ (b : Bool). bit x j && b) (bit_flag true k j) ∙ at j (eqb j k) refl ∙ sym (bit_flag (bit x k) k j))
  where
    at : (j : ℕ) (b : Bool) → eqb j k ≡ b → (bit x j && b) ≡ (bit x k && b)
    at j true e = rw (eqb-true j k e)
    at j false e = and-false (bit x j) ∙ sym (and-false (bit x k))

at_places : (ks : List ℕ) (x : ℕ) → bit_and x (mask_of ks) ≡ bits_at ks x
at_places [] x = and_zero_r x
at_places (k ∷ ks) x =
    by_bits (bit_and x (bit_or (2 ^ k) (mask_of ks))) (bit_or (bit_and x (2 ^ k)) (bit_and x (mask_of ks))) (λ j. simp (bit_and_lem, bit_or_lem) (and-or_distrib_left (bit x j) (bit (2 ^ k) j) (bit (mask_of ks) j)))
    ∙ (λ i. bit_or (one_place x k i) (at_places ks x i))

only_is : (ks : List ℕ) (x : ℕ) → only (mask_of ks) x ≡ eqb (bits_at ks x) x
unfolding only
only_is ks x = λ i. eqb (at_places ks x i) x

full_is : (n : ℕ) → eqb (8 - n) 0 ≡ leb 8 n
full_is n = by (leb 8 n) refl
  where
    by : (b : Bool) → leb 8 n ≡ b → eqb (8 - n) 0 ≡ b
    by true e = let l = leb-true 8 n e in eq-eqb (8 - n) 0 (omega arith)
    by false e = let l = leb-false 8 n e in ne_eqb (8 - n) 0 (λ q. omega arith)

lane_is : (l : Lane) (list : List Bool) (ended : Bool) → any_of list ≡ ended
    → any_of (ltb 8 (length l.words) ∷ not (eqb (l.address % 4) 0) ∷ ltb 0x03FF_FFFF l.count ∷ (l.right && any_of list) ∷ []) ≡ is_lane_wrong l ended
lane_is l list ended e = sym (any_four (ltb 8 (length l.words)) (not (eqb (l.address % 4) 0)) (ltb 0x03FF_FFFF l.count) (l.right && any_of list)) ∙ rw e

read_is : (st : State) → any_of (ends pci st.from_pci st.mcsr st.intcsr) ≡ is_read_ended st
read_is st =
    sym (any_five (eqb (8 - length st.from_pci.words) 0) (eqb st.from_pci.count 0) (not (bit st.mcsr 13)) (not (bit st.mcsr 14)) (is_aborted st))
    ∙ rw (full_is (length st.from_pci.words))

write_is : (st : State) → any_of (ends addon st.from_addon st.mcsr st.intcsr) ≡ is_write_ended st
write_is st = sym (any_five (eqb (length st.from_addon.words) 0) (eqb st.from_addon.count 0) (not (bit st.mcsr 9)) (not (bit st.mcsr 10)) (is_aborted st))

wrong_is : (st : State) → is_out_of_form st ≡ is_state_wrong st
unfolding is_out_of_form
wrong_is st =
    let read = lane_is st.from_pci (ends pci st.from_pci st.mcsr st.intcsr) (is_read_ended st) (read_is st) in
    let write = lane_is st.from_addon (ends addon st.from_addon st.mcsr st.intcsr) (is_write_ended st) (write_is st) in
    (λ i. any_of (read i ∷ write i ∷ not (only_is intcsr_bits st.intcsr i) ∷ not (only_is mcsr_bits st.mcsr i) ∷ not (only_is aint_bits st.aint i) ∷ []))
    ∙ sym (any_five (is_lane_wrong st.from_pci (is_read_ended st)) (is_lane_wrong st.from_addon (is_write_ended st)) (holds_other intcsr_bits st.intcsr) (holds_other mcsr_bits st.mcsr) (holds_other aint_bits st.aint))

-- ---- the kinds of the tests of accesses

access_is : (k : ℕ) → is_access (kind_of k) ≡ is_access_kind k
access_is zero = refl
access_is (suc zero) = refl
access_is (suc (suc zero)) = refl
access_is (suc (suc (suc zero))) = refl
access_is (suc (suc (suc (suc zero)))) = refl
access_is (suc (suc (suc (suc (suc zero))))) = refl
access_is (suc (suc (suc (suc (suc (suc zero)))))) = refl
access_is (suc (suc (suc (suc (suc (suc (suc n))))))) =
    let k = suc (suc (suc (suc (suc (suc (suc n)))))) in
    rw (ne_eqb k 0 (λ q. omega arith), ne_eqb k 1 (λ q. omega arith), ne_eqb k 2 (λ q. omega arith), ne_eqb k 3 (λ q. omega arith))

table_is : (st : State) (start words : ℕ) (s : Step) → code_of st start words (access_of s) ≡ first_that (code_table st start words s)
unfolding code_of is_window_out_of_form is_unknown_offset has_bad_enables is_part_fifo_access is_read_only_write is_full_or_empty is_transfer_off is_count_zero is_abort_standing is_not_ready is_no_memory place_of
table_is st start words s =
    let n = named s.kind in
    let o = offset_table s.offset in
    let r = ready_rule st in
    let access = access_is s.kind in
    let port = eqb s.offset 0x20 in
    let cycling : (b c : Bool) → (cycles pci (kind_of s.kind) && b || cycles addon (kind_of s.kind) && c) ≡ of_cycles s b c = λ b c i. n.read_cycle i && b || n.write_cycle i && c in
    λ i.
    first_that (
    (1, wrong_is st i)
    ∷ (2, not (eqb (start % 4) 0) || ltb 16384 words)
    ∷ (3, n.unknown i)
    ∷ (4, n.on_pci i && not (o.in_pci i) || n.on_addon i && not (o.in_addon i))
    ∷ (5, access i && ltb 15 s.enables)
    ∷ (6, access i && port && not (eqb s.enables 15))
    ∷ (7, n.write_on_pci i && o.read_only_to_pci i || n.write_on_addon i && o.read_only_to_addon i)
    ∷ (8, n.pci_write i && port && leb 8 (length st.from_pci.words) || n.addon_read i && port && eqb (length st.from_pci.words) 0 || (n.addon_write i && port && leb 8 (length st.from_addon.words) || n.pci_read i && port && eqb (length st.from_addon.words) 0))
    ∷ (9, cycling (not (bit st.mcsr 14)) (not (bit st.mcsr 10)) i)
    ∷ (10, cycling (eqb st.from_pci.count 0) (eqb st.from_addon.count 0) i)
    ∷ (11, cycling (is_aborted st) (is_aborted st) i)
    ∷ (12, n.read_cycle i && not (r.read i) || n.write_cycle i && not (r.write i))
    ∷ (13, cycling (is_outside start words st.from_pci.address) (is_outside start words st.from_addon.address) i)
    ∷ []
    )

pub code_rule : CodeRule
unfolding step_of respond answered
code_rule st start memory s = table_is st start (length memory) s

pub first : FirstCode
first st start memory s = rw (code_rule st start memory s) (first_of (code_table st start (length memory) s) refl)

pub every_code : EveryCode
every_code st start words s = refl

-- a test that 0 and every code of the table pass
pub each_code : (test : ℕ → Bool) (st : State) (start : ℕ) (memory : List ℕ) (s : Step) → all_of test (code_table st start (length memory) s) ≡ true
    → test (step_of st start memory s).answer.code ≡ true
each_code test st start memory s e = rw (code_rule st start memory s) (every_of test (code_table st start (length memory) s) e)

pub numbered : Numbered
numbered st start memory s = each_code (is_one_of step_codes) st start memory s refl
