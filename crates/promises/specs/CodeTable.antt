-- Demand 1, and "Numbers a step can answer" of document 01: which code a step answers, on every state, start and memory, by numbers alone. None of the machine's
-- tests, masks, tables or names of kinds is used: kinds and offsets are numbers, registers are told by their bits, FIFOs by how many words they hold.
use Rattle.std.specs.Prelude.{ℕ, ◌+◌, ◌-◌, ◌/◌, ◌%◌, ◌^◌, ◌≡◌, Bool, true, false, cond, not, ◌&&◌, ◌||◌, List, [], ◌∷◌, map, eqb, leb, ltb, length}
use Rattle.std.specs.Int.Bits.{bit_or}
use Rattle.machine.specs.Words.{bit}
use Rattle.machine.specs.State.{State, Lane}
use Rattle.machine.specs.Code.{test_of}
use Rattle.machine.specs.Step.{step_of}
use Rattle.promises.specs.Readings.{is_one_of, by_pci, by_addon, is_access_kind, pci_offsets, addon_offsets, pci_read_only, addon_read_only}
use Rattle.machine.specs.declared.Step.{Step}

-- ---- a table of codes, each with its test: the order of the table decides, and not the numbers

-- the code of the first test that holds; 0, done, if none does
abbrev pub first_that : List (ℕ × Bool) → ℕ
first_that [] = 0
first_that (t ∷ ts) = cond t.1 t.0 (first_that ts)

-- one of the tests that stand before a code's holds; one of all, if it has none there
abbrev pub is_preceded : ℕ → List (ℕ × Bool) → Bool
is_preceded code [] = false
is_preceded code (t ∷ ts) = cond (eqb t.0 code) false (t.1 || is_preceded code ts)

abbrev pub codes_in : List (ℕ × Bool) → List ℕ
codes_in ts = map (λ (t : ℕ × Bool). t.0) ts

-- ---- code 1

-- the bits of a register that stand at some places, zero elsewhere; and whether it holds any other bit, however high
abbrev pub bits_at : List ℕ → ℕ → ℕ
bits_at [] x = 0
bits_at (k ∷ ks) x = bit_or (cond (bit x k) (2 ^ k) 0) (bits_at ks x)

abbrev pub holds_other : List ℕ → ℕ → Bool
holds_other places x = not (eqb (bits_at places x) x)

-- the bits that INTCSR, MCSR and AINT may hold
abbrev pub intcsr_bits : List ℕ
intcsr_bits = 0 ∷ 1 ∷ 2 ∷ 3 ∷ 4 ∷ 8 ∷ 9 ∷ 10 ∷ 11 ∷ 12 ∷ 14 ∷ 15 ∷ 16 ∷ 17 ∷ 18 ∷ 19 ∷ 20 ∷ 21 ∷ []

abbrev pub mcsr_bits : List ℕ
mcsr_bits = 8 ∷ 9 ∷ 10 ∷ 12 ∷ 13 ∷ 14 ∷ 15 ∷ []

abbrev pub aint_bits : List ℕ
aint_bits = 0 ∷ 1 ∷ 2 ∷ 3 ∷ 4 ∷ 8 ∷ 9 ∷ 10 ∷ 11 ∷ 12 ∷ 14 ∷ 15 ∷ 16 ∷ 17 ∷ 18 ∷ 19 ∷ 21 ∷ []

-- a lane out of form: more than eight words, an address that is no multiple of 4, a count above 03FFFFFF, a right beside one of its ends
abbrev pub is_lane_wrong : Lane → Bool → Bool
is_lane_wrong l ended = ltb 8 (length l.words) || not (eqb (l.address % 4) 0) || ltb 0x03FF_FFFF l.count || l.right && ended

-- INTCSR 20 or 21: an abort stands
abbrev pub is_aborted : State → Bool
is_aborted st = bit st.intcsr 20 || bit st.intcsr 21

-- the ends of the right of read cycles: the FIFO full, the count zero, MCSR 13 or 14 clear, an abort; and of write cycles: empty, zero, MCSR 9 or 10 clear, an abort
abbrev pub is_read_ended : State → Bool
is_read_ended st = leb 8 (length st.from_pci.words) || eqb st.from_pci.count 0 || not (bit st.mcsr 13) || not (bit st.mcsr 14) || is_aborted st

abbrev pub is_write_ended : State → Bool
is_write_ended st = eqb (length st.from_addon.words) 0 || eqb st.from_addon.count 0 || not (bit st.mcsr 9) || not (bit st.mcsr 10) || is_aborted st

abbrev pub is_state_wrong : State → Bool
is_state_wrong st =
    is_lane_wrong st.from_pci (is_read_ended st) || is_lane_wrong st.from_addon (is_write_ended st) || holds_other intcsr_bits st.intcsr || holds_other mcsr_bits st.mcsr || holds_other aint_bits st.aint

-- ---- the table

-- a kind of step at the FIFO port
abbrev pub at_port : ℕ → Step → Bool
at_port kind s = eqb s.kind kind && eqb s.offset 0x20

-- a test for read cycles (5), and one for write cycles (4)
abbrev pub of_cycles : Step → Bool → Bool → Bool
of_cycles s reading writing = eqb s.kind 5 && reading || eqb s.kind 4 && writing

-- an address lies outside a memory of so many words: its place, (address minus start, modulo 2^32) divided by 4, is none of theirs
abbrev pub is_outside : ℕ → ℕ → ℕ → Bool
is_outside start words address = not (ltb ((address + (2 ^ 32 - start % 2 ^ 32)) % 2 ^ 32 / 4) words)

abbrev pub code_table : State → ℕ → ℕ → Step → List (ℕ × Bool)
code_table st start words s =
    let read = st.from_pci in
    let write = st.from_addon in
    (1, is_state_wrong st)
    ∷ (2, not (eqb (start % 4) 0) || ltb 16384 words)
    ∷ (3, ltb 6 s.kind)
    ∷ (4, by_pci s.kind && not (is_one_of pci_offsets s.offset) || by_addon s.kind && not (is_one_of addon_offsets s.offset))
    ∷ (5, is_access_kind s.kind && ltb 15 s.enables)
    ∷ (6, is_access_kind s.kind && eqb s.offset 0x20 && not (eqb s.enables 15))
    ∷ (7, eqb s.kind 1 && is_one_of pci_read_only s.offset || eqb s.kind 3 && is_one_of addon_read_only s.offset)
    ∷ (8, at_port 1 s && leb 8 (length read.words) || at_port 2 s && eqb (length read.words) 0 || (at_port 3 s && leb 8 (length write.words) || at_port 0 s && eqb (length write.words) 0))
    ∷ (9, of_cycles s (not (bit st.mcsr 14)) (not (bit st.mcsr 10)))
    ∷ (10, of_cycles s (eqb read.count 0) (eqb write.count 0))
    ∷ (11, of_cycles s (is_aborted st) (is_aborted st))
    ∷ (12, of_cycles s (not (leb (length read.words) 4 || (not (bit st.mcsr 13) || read.right) && leb (length read.words) 7)) (not (leb 4 (length write.words) || (not (bit st.mcsr 9) || write.right) && leb 1 (length write.words))))
    ∷ (13, of_cycles s (is_outside start words read.address) (is_outside start words write.address))
    ∷ []

-- ---- what is promised

-- `code_rule`: the code is that of the first test of the table that holds, and 0 if none does
abbrev pub CodeRule : Type 0
CodeRule =
    (st : State) (start : ℕ) (memory : List ℕ) (s : Step) → (step_of st start memory s).answer.code ≡ first_that (code_table st start (length memory) s)

-- `first`: so the code given applies, unless it is 0, and none that stands before it does; with 0, none applies
pub record First (code : ℕ) (ts : List (ℕ × Bool)) : Type 0 where
  pub applies : eqb code 0 ≡ false → test_of code ts ≡ true
  pub first : is_preceded code ts ≡ false

abbrev pub FirstCode : Type 0
FirstCode =
    (st : State) (start : ℕ) (memory : List ℕ) (s : Step) → First (step_of st start memory s).answer.code (code_table st start (length memory) s)

-- the codes that answer a step: done, and the refusals in their order
abbrev pub step_codes : List ℕ
step_codes = 0 ∷ 1 ∷ 2 ∷ 3 ∷ 4 ∷ 5 ∷ 6 ∷ 7 ∷ 8 ∷ 9 ∷ 10 ∷ 11 ∷ 12 ∷ 13 ∷ []

-- `every_code`: the table has all of them but done, each once, in that order
abbrev pub EveryCode : Type 0
EveryCode = (st : State) (start words : ℕ) (s : Step) → 0 ∷ codes_in (code_table st start words s) ≡ step_codes

-- `numbered`: the code is one of them
abbrev pub Numbered : Type 0
Numbered =
    (st : State) (start : ℕ) (memory : List ℕ) (s : Step)
    → is_one_of step_codes (step_of st start memory s).answer.code ≡ true
