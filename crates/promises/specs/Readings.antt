-- What the rules that go by masks mean, stated bit by bit; and what single steps leave and answer.
use Rattle.std.specs.Prelude.{ℕ, ◌+◌, ◌-◌, ◌*◌, ◌/◌, ◌%◌, ◌^◌, ◌≤◌, ◌<◌, min, ◌≡◌, Bool, true, false, cond, not, ◌&&◌, ◌||◌, List, [], ◌∷◌, map, eqb, leb, ltb, length, get_or, set}
use Rattle.std.specs.Int.Bits.{bit_xor}
use Rattle.machine.specs.Words.{bit, any_of, shown, merged, written}
use Rattle.machine.specs.Sides.{Side, pci, addon}
use Rattle.machine.specs.State.{State, reset_state}
use Rattle.machine.specs.Offsets.{in_table, is_read_only}
use Rattle.machine.specs.Fifos.{front}
use Rattle.machine.specs.Window.{place_of}
use Rattle.machine.specs.Mcsr.{mcsr_kept, mcsr_read, agcsts_read}
use Rattle.machine.specs.Cycles.{address_kept, count_kept, low_enables, is_ready}
use Rattle.machine.specs.Interrupts.{interrupts, interrupts_kept, flags, interrupts_written, line_of, interrupts_read}
use Rattle.machine.specs.Code.{is_out_of_form}
use Rattle.machine.specs.Step.{register, step_of}
use Rattle.machine.specs.declared.Step.{Step}
use Rattle.machine.specs.declared.Answer.{Answer}

-- ---- of the rules for words

-- `shown_bits`: the enabled bytes, zero at the others; byte k / 8 has bit k
abbrev pub ShownBits : Type 0
ShownBits = (k : ℕ) → k < 32 → (x enables : ℕ) → bit (shown x enables) k ≡ (bit x k && bit enables (k / 8))

-- `merged_bits`: a write takes the enabled bytes only
abbrev pub MergedBits : Type 0
MergedBits = (k : ℕ) → k < 32 → (old new enables : ℕ) → bit (merged old new enables) k ≡ cond (bit enables (k / 8)) (bit new k) (bit old k)

-- `written_bits`: of what is written a register keeps the bits where keeps has ones
abbrev pub WrittenBits : Type 0
WrittenBits =
    (k : ℕ) → k < 32 → (keeps old new enables : ℕ)
    → bit (written keeps old new enables) k ≡ (cond (bit enables (k / 8)) (bit new k) (bit old k) && bit keeps k)

-- `kept_bits`: of what is written an address keeps all but 1:0, a count 25:0, INTCSR and AINT 4:0, 12:8 and 15:14, MCSR 15:12 and 10:8; INTCSR's flags
-- are 21:16, AINT's 19:16 and 21
pub record KeptBits (k : ℕ) : Type 0 where
  pub address : bit address_kept k ≡ leb 2 k
  pub count : bit count_kept k ≡ leb k 25
  pub intcsr : bit (interrupts_kept pci) k ≡ (leb k 4 || leb 8 k && leb k 12 || eqb k 14 || eqb k 15)
  pub aint : bit (interrupts_kept addon) k ≡ (leb k 4 || leb 8 k && leb k 12 || eqb k 14 || eqb k 15)
  pub pci_flags : bit (flags pci) k ≡ (leb 16 k && leb k 21)
  pub addon_flags : bit (flags addon) k ≡ (leb 16 k && leb k 19 || eqb k 21)
  pub mcsr : bit mcsr_kept k ≡ (leb 12 k && leb k 15 || leb 8 k && leb k 10)

abbrev pub KeptBitsHold : Type 0
KeptBitsHold = (k : ℕ) → k < 32 → KeptBits k

-- `low_enables_lem`: enable bit i is set for the bytes that a cycle moves: i below 4 and below the count
abbrev pub LowEnables : Type 0
LowEnables = (count i : ℕ) → bit (low_enables count) i ≡ ltb i (min 4 count)

-- `interrupts_written_bits`: of INTCSR and of AINT, a kept bit is written where its byte is enabled; a flag is cleared by a one written where its byte is
-- enabled; no other is held
abbrev pub InterruptsWrittenBits : Type 0
InterruptsWrittenBits =
    (side : Side) (k : ℕ) → k < 32 → (old new enables : ℕ)
    → bit (interrupts_written side old new enables) k
    ≡ (cond (bit enables (k / 8)) (bit new k) (bit old k) && bit (interrupts_kept side) k || bit old k && bit (flags side) k && not (bit new k && bit enables (k / 8)))

-- `interrupts_read_bits`: either of a state in form reads the kept bits and its flags, bit 23 is the line, and other bits read zero
abbrev pub InterruptsReadBits : Type 0
InterruptsReadBits =
    (side : Side) (st : State) → is_out_of_form st ≡ false → (k : ℕ) → k < 32
    → (let i = interrupts side st in bit (interrupts_read i) k ≡ (bit i k && (bit (interrupts_kept side) k || bit (flags side) k) || line_of i && eqb k 23))

-- `mcsr_read_bits`: MCSR of a state in form reads the status in bits 7 to 0, and the kept bits; other bits read zero
pub record McsrStatus (st : State) : Type 0 where
  pub write_count_zero : bit (mcsr_read st) 7 ≡ eqb st.from_addon.count 0
  pub read_count_zero : bit (mcsr_read st) 6 ≡ eqb st.from_pci.count 0
  pub addon_empty : bit (mcsr_read st) 5 ≡ eqb (length st.from_addon.words) 0
  pub addon_four_held : bit (mcsr_read st) 4 ≡ leb 4 (length st.from_addon.words)
  pub addon_full : bit (mcsr_read st) 3 ≡ leb 8 (length st.from_addon.words)
  pub pci_empty : bit (mcsr_read st) 2 ≡ eqb (length st.from_pci.words) 0
  pub pci_four_free : bit (mcsr_read st) 1 ≡ leb (length st.from_pci.words) 4
  pub pci_full : bit (mcsr_read st) 0 ≡ leb 8 (length st.from_pci.words)
  pub others : (k : ℕ) → 8 ≤ k → bit (mcsr_read st) k ≡ (bit st.mcsr k && bit mcsr_kept k)

abbrev pub McsrReadBits : Type 0
McsrReadBits = (st : State) → is_out_of_form st ≡ false → McsrStatus st

-- `agcsts_read_bits`: AGCSTS reads the status of the FIFOs in bits 5 to 0, the FIFO from PCI above the other, and zero elsewhere
pub record AgcstsStatus (st : State) : Type 0 where
  pub pci_empty : bit (agcsts_read st) 5 ≡ eqb (length st.from_pci.words) 0
  pub pci_four_free : bit (agcsts_read st) 4 ≡ leb (length st.from_pci.words) 4
  pub pci_full : bit (agcsts_read st) 3 ≡ leb 8 (length st.from_pci.words)
  pub addon_empty : bit (agcsts_read st) 2 ≡ eqb (length st.from_addon.words) 0
  pub addon_four_held : bit (agcsts_read st) 1 ≡ leb 4 (length st.from_addon.words)
  pub addon_full : bit (agcsts_read st) 0 ≡ leb 8 (length st.from_addon.words)
  pub others : (k : ℕ) → 6 ≤ k → bit (agcsts_read st) k ≡ false

abbrev pub AgcstsReadBits : Type 0
AgcstsReadBits = (st : State) → AgcstsStatus st

-- ---- of the registers and the window

-- a number, as an offset, is one of a list
abbrev pub is_one_of : List ℕ → ℕ → Bool
is_one_of [] n = false
is_one_of (x ∷ xs) n = eqb n x || is_one_of xs n

-- reads and writes of PCI (0, 1), and of the Add-On (2, 3)
abbrev pub by_pci : ℕ → Bool
by_pci kind = eqb kind 0 || eqb kind 1

abbrev pub by_addon : ℕ → Bool
by_addon kind = eqb kind 2 || eqb kind 3

-- any of these
abbrev pub is_access_kind : ℕ → Bool
is_access_kind kind = by_pci kind || by_addon kind

-- the offsets of PCI's table, and of the Add-On's
abbrev pub pci_offsets : List ℕ
pci_offsets = 0x00 ∷ 0x04 ∷ 0x08 ∷ 0x0C ∷ 0x10 ∷ 0x14 ∷ 0x18 ∷ 0x1C ∷ 0x20 ∷ 0x24 ∷ 0x28 ∷ 0x2C ∷ 0x30 ∷ 0x34 ∷ 0x38 ∷ 0x3C ∷ []

abbrev pub addon_offsets : List ℕ
addon_offsets = 0x00 ∷ 0x04 ∷ 0x08 ∷ 0x0C ∷ 0x10 ∷ 0x14 ∷ 0x18 ∷ 0x1C ∷ 0x20 ∷ 0x34 ∷ 0x38 ∷ 0x3C ∷ []

-- the read-only ones to PCI, and to the Add-On
abbrev pub pci_read_only : List ℕ
pci_read_only = 0x10 ∷ 0x14 ∷ 0x18 ∷ 0x1C ∷ 0x34 ∷ []

abbrev pub addon_read_only : List ℕ
addon_read_only = 0x00 ∷ 0x04 ∷ 0x08 ∷ 0x0C ∷ 0x34 ∷ []

-- `offset_table`: Register offsets, of each side those in its table and the read-only ones
pub record OffsetTable (offset : ℕ) : Type 0 where
  pub in_pci : in_table pci offset ≡ is_one_of pci_offsets offset
  pub in_addon : in_table addon offset ≡ is_one_of addon_offsets offset
  pub read_only_to_pci : is_read_only pci offset ≡ is_one_of pci_read_only offset
  pub read_only_to_addon : is_read_only addon offset ≡ is_one_of addon_read_only offset

abbrev pub OffsetTables : Type 0
OffsetTables = (offset : ℕ) → OffsetTable offset

-- `register_table`: Register offsets, what each side reads at each of its own but the FIFO port: the eight mailbox words, outgoing ones first, then the
-- registers by name
pub record RegisterTable (st : State) : Type 0 where
  pub mail : (side : Side) (i : ℕ) → i < 8 → register side st (4 * i) ≡ get_or st.mail i 0
  pub write_address : register pci st 0x24 ≡ st.from_addon.address
  pub write_count : register pci st 0x28 ≡ st.from_addon.count
  pub read_address : register pci st 0x2C ≡ st.from_pci.address
  pub read_count : register pci st 0x30 ≡ st.from_pci.count
  pub status : (side : Side) → register side st 0x34 ≡ st.marks
  pub intcsr : register pci st 0x38 ≡ interrupts_read st.intcsr
  pub mcsr : register pci st 0x3C ≡ mcsr_read st
  pub aint : register addon st 0x38 ≡ interrupts_read st.aint
  pub agcsts : register addon st 0x3C ≡ agcsts_read st

abbrev pub RegisterTables : Type 0
RegisterTables = (st : State) → RegisterTable st

-- `ready_rule`: FIFOs and memory cycles, Ask 5: a write cycle with four words or, where MCSR 9 is clear or it has the right, with one; a read cycle
-- with room for four or, where MCSR 13 is clear or it has the right, for one
pub record ReadyThen (st : State) : Type 0 where
  pub write : is_ready addon st ≡ (leb 4 (length st.from_addon.words) || (not (bit st.mcsr 9) || st.from_addon.right) && leb 1 (length st.from_addon.words))
  pub read : is_ready pci st ≡ (leb (length st.from_pci.words) 4 || (not (bit st.mcsr 13) || st.from_pci.right) && leb (length st.from_pci.words) 7)

abbrev pub ReadyRule : Type 0
ReadyRule = (st : State) → ReadyThen st

-- `place_rule`: A step and its answer, the place of an address among the words from a start on, both of 32 bits; below the start it is past the wrap
abbrev pub PlaceRule : Type 0
PlaceRule =
    (start address : ℕ) → start < 2 ^ 32 → address < 2 ^ 32
    → (start ≤ address → place_of start address ≡ (address - start) / 4)
    × (address < start → place_of start address ≡ (2 ^ 32 - (start - address)) / 4)

-- ---- of a step

-- `read_answers`: Ask 6, a done read of a register but the FIFO port answers the whole register, whatever the enables
abbrev pub ReadAnswers : Type 0
ReadAnswers =
    (st : State) (start : ℕ) (memory : List ℕ) (s : Step)
    → (let o = step_of st start memory s in
    o.answer.code ≡ 0 → (eqb s.kind 0 || eqb s.kind 2) ≡ true → eqb s.offset 0x20 ≡ false
    → o.answer.value ≡ register (cond (eqb s.kind 0) pci addon) st s.offset)

-- what a write cycle leaves of the memory: at the place of its address the lowest n bytes of the front word, the others as they were; all else as it was
pub record WriteCycleStores (st : State) (start : ℕ) (memory after : List ℕ) : Type 0 where
  pub inside : place_of start st.from_addon.address < length memory
  pub elsewhere : after ≡ set memory (place_of start st.from_addon.address) (get_or after (place_of start st.from_addon.address) 0)
  pub bytes :
      (k : ℕ) → k < 32
      → (let at = place_of start st.from_addon.address in
      bit (get_or after at 0) k ≡ cond (ltb (k / 8) (min 4 st.from_addon.count)) (bit (front st.from_addon.words) k) (bit (get_or memory at 0) k))

-- `memory_rule`: a done write cycle stores; no other step touches the memory
abbrev pub MemoryRule : Type 0
MemoryRule =
    (st : State) (start : ℕ) (memory : List ℕ) (s : Step)
    → (let o = step_of st start memory s in
    let cycle = eqb o.answer.code 0 && eqb s.kind 4 in
    (cycle ≡ false → o.memory ≡ memory) × (cycle ≡ true → WriteCycleStores st start memory o.memory))

-- what a done read cycle answers, and so by `fifo_account` lets in: the lowest n bytes of the memory word at its place, zero above them (house)
pub record ReadCycleLoads (st : State) (start : ℕ) (memory : List ℕ) (word : ℕ) : Type 0 where
  pub inside : place_of start st.from_pci.address < length memory
  pub bytes :
      (k : ℕ) → k < 32
      → bit word k ≡ (bit (get_or memory (place_of start st.from_pci.address) 0) k && ltb (k / 8) (min 4 st.from_pci.count))

-- `read_cycle_word`: of every done read cycle
abbrev pub ReadCycleWord : Type 0
ReadCycleWord =
    (st : State) (start : ℕ) (memory : List ℕ) (s : Step)
    → (let o = step_of st start memory s in o.answer.code ≡ 0 → eqb s.kind 5 ≡ true → ReadCycleLoads st start memory o.answer.value)

-- `reset_rule`: a done chip reset leaves zeros and empty FIFOs, host memory as it was, and answers zeros
abbrev pub ResetRule : Type 0
ResetRule =
    (st : State) (start : ℕ) (memory : List ℕ) (s : Step)
    → (let o = step_of st start memory s in
    o.answer.code ≡ 0 → eqb s.kind 6 ≡ true
    → o ≡ record { state = reset_state; memory = memory; answer = record { code = 0; address = 0; value = 0; enables = 0; line = false; addon_line = false; changed = 0 } })

-- a register that keeps some bits and is written by a kind of step at an offset: what such a write leaves, or else `rest`
abbrev pub unless_written : ℕ → ℕ → ℕ → Step → ℕ → ℕ → ℕ
unless_written kind at keeps s old rest = cond (eqb s.kind kind && eqb s.offset at) (written keeps old s.value s.enables) rest

-- an address and a count register by their offset and the kind of their cycle, which adds 4 to the one (FFFFFFFC is followed by 0), and subtracts n from the other
abbrev pub address_then : ℕ → ℕ → Step → ℕ → ℕ
address_then at kind s old = unless_written 1 at address_kept s old (cond (eqb s.kind kind) ((old + 4) % 2 ^ 32) old)

abbrev pub count_then : ℕ → ℕ → Step → ℕ → ℕ
count_then at kind s old = unless_written 1 at count_kept s old (cond (eqb s.kind kind) (old - min 4 old) old)

-- `register_rule`: after a done step that is no reset, the addresses, the counts, MCSR and bits 15 to 0 of INTCSR and AINT are as they were,
-- but for a write of that register, of AINT by the Add-On, else by PCI, and, of an address or a count, its cycle
pub record RegistersThen (s : Step) (st after : State) : Type 0 where
  pub write_address : after.from_addon.address ≡ address_then 0x24 4 s st.from_addon.address
  pub write_count : after.from_addon.count ≡ count_then 0x28 4 s st.from_addon.count
  pub read_address : after.from_pci.address ≡ address_then 0x2C 5 s st.from_pci.address
  pub read_count : after.from_pci.count ≡ count_then 0x30 5 s st.from_pci.count
  pub mcsr : after.mcsr ≡ unless_written 1 0x3C mcsr_kept s st.mcsr st.mcsr
  pub intcsr : (k : ℕ) → k < 16 → bit after.intcsr k ≡ bit (unless_written 1 0x38 (interrupts_kept pci) s st.intcsr st.intcsr) k
  pub aint : (k : ℕ) → k < 16 → bit after.aint k ≡ bit (unless_written 3 0x38 (interrupts_kept addon) s st.aint st.aint) k

abbrev pub RegisterRule : Type 0
RegisterRule =
    (st : State) (start : ℕ) (memory : List ℕ) (s : Step)
    → (let o = step_of st start memory s in o.answer.code ≡ 0 → eqb s.kind 6 ≡ false → RegistersThen s st o.state)

-- ---- of an answer

-- `changed_rule`: Ask 2, a done read or write below offset 20 answers the marks that differ before and after it; every other answer has none
abbrev pub ChangedRule : Type 0
ChangedRule =
    (st : State) (start : ℕ) (memory : List ℕ) (s : Step)
    → (let o = step_of st start memory s in
    o.answer.changed ≡ cond (eqb o.answer.code 0 && (is_access_kind s.kind && ltb s.offset 0x20)) (bit_xor st.marks o.state.marks) 0)

-- INTCSR and MCSR, Ask 3: an interrupt line by the bits of its register, four flags each with its enable, and two that need none
abbrev pub is_line_high : ℕ → Bool
is_line_high i = any_of (map (λ (pair : ℕ × ℕ). bit i pair.0 && bit i pair.1) ((16, 4) ∷ (17, 12) ∷ (18, 14) ∷ (19, 15) ∷ [])) || (bit i 20 || bit i 21)

-- `line_rule`: every answer has the lines of the state after the step, PCI's by INTCSR and the Add-On's by AINT, but zero for code 1
pub record LinesThen (after : State) (a : Answer) : Type 0 where
  pub line : a.line ≡ cond (eqb a.code 1) false (is_line_high after.intcsr)
  pub addon_line : a.addon_line ≡ cond (eqb a.code 1) false (is_line_high after.aint)

abbrev pub LineRule : Type 0
LineRule = (st : State) (start : ℕ) (memory : List ℕ) (s : Step) → (let o = step_of st start memory s in LinesThen o.state o.answer)

-- what a read answers: at the FIFO port the front word of a FIFO, else the whole register
abbrev pub read_then : Side → State → Step → List ℕ → ℕ
read_then side st s words = cond (eqb s.offset 0x20) (front words) (register side st s.offset)

-- What a done step answers, a list by the kind's number: reads and writes of the host, of the card, the two cycles, the reset.
-- PCI reads the FIFO that the Add-On feeds, and the Add-On the other. A cycle answers the address before the step,
abbrev pub addresses : State → List ℕ
addresses st = 0 ∷ 0 ∷ 0 ∷ 0 ∷ st.from_addon.address ∷ st.from_pci.address ∷ 0 ∷ []

-- the word taken from the front, or the memory word's lowest n bytes,
abbrev pub values : State → ℕ → List ℕ → Step → List ℕ
values st start memory s =
    read_then pci st s st.from_addon.words ∷ 0 ∷ read_then addon st s st.from_pci.words ∷ 0 ∷ front st.from_addon.words
    ∷ (get_or memory (place_of start st.from_pci.address) 0 % 2 ^ (8 * min 4 st.from_pci.count))
    ∷ 0 ∷ []

-- and the lowest n enables
abbrev pub lowest_enables : State → List ℕ
lowest_enables st = 0 ∷ 0 ∷ 0 ∷ 0 ∷ (2 ^ min 4 st.from_addon.count - 1) ∷ (2 ^ min 4 st.from_pci.count - 1) ∷ 0 ∷ []

-- `answer_rule`: A step and its answer, FIFOs and memory cycles: what a done step answers besides the code
pub record AnswerThen (st : State) (start : ℕ) (memory : List ℕ) (s : Step) (after : State) (a : Answer) : Type 0 where
  pub kind : s.kind ≤ 6
  pub address : a.address ≡ get_or (addresses st) s.kind 0
  pub value : a.value ≡ get_or (values st start memory s) s.kind 0
  pub enables : a.enables ≡ get_or (lowest_enables st) s.kind 0
  pub line : a.line ≡ is_line_high after.intcsr
  pub addon_line : a.addon_line ≡ is_line_high after.aint

abbrev pub AnswerRule : Type 0
AnswerRule =
    (st : State) (start : ℕ) (memory : List ℕ) (s : Step)
    → (let o = step_of st start memory s in o.answer.code ≡ 0 → AnswerThen st start memory s o.state o.answer)
