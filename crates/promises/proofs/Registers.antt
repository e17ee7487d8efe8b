-- What a done step leaves of the registers, and what a reset leaves.
use Prim.Native.Nat.{ℕ, ◌≤◌, ◌<◌}
use mathlib.Core.Path.{◌≡◌, refl, sym, ◌∙◌}
use mathlib.Core.Bool.{Bool, true, false, cond, ◌&&◌, and-false, or-false}
use native.Mathlib.Omega.{arith}
use lib.Dec.{eqb}
use borrow.Author.Tests.{eqb-true, ne_eqb, lt-leb}
use Rattle.machine.specs.Words.{bit, raised, written}
use Rattle.machine.specs.Sides.{Side, pci, addon, host, card, party_of}
use Rattle.machine.specs.State.{State}
use Rattle.machine.specs.Access.{Kind, kind_of, reading, writing, cycle, chip_reset, unknown, is_write_by}
use Rattle.machine.specs.Mcsr.{mcsr_kept, mcsr_after}
use Rattle.machine.specs.Cycles.{address_after, count_after}
use Rattle.machine.specs.Interrupts.{interrupts, interrupts_kept, flags, interrupts_written, notified, interrupts_after, line_of}
use Rattle.machine.specs.Rights.{settled}
use Rattle.machine.specs.Step.{step_of, respond, answered, reply_of, done_reply, state_after, memory_after, moved_state, done_state}
use Rattle.promises.specs.Readings.{RegisterRule, ResetRule}
use Rattle.laws.proofs.KindNumbers.{Named, named}
use Rattle.laws.proofs.Bits.{bit_raised}
use Rattle.promises.proofs.Bytes.{bit-written}
use Rattle.promises.proofs.Readings.{kept_bits, interrupts_written_bits}

pub reset_rule : ResetRule
unfolding step_of respond answered reply_of done_reply state_after memory_after line_of bit
reset_rule st start memory s e r = rw (e, eqb-true s.kind 6 r)

-- ---- the kept bits of INTCSR and AINT

module _ (k : ℕ) (h : k < 16) where
  no_flag : (side : Side) → bit (flags side) k ≡ false
  no_flag pci = (kept_bits k (omega arith)).pci_flags ∙ rw (lt-leb 16 k (omega arith))
  no_flag addon = (kept_bits k (omega arith)).addon_flags ∙ rw (lt-leb 16 k (omega arith), ne_eqb k 21 (λ q. omega arith))

  -- an event of another bit
  raised-elsewhere : (i : ℕ) (on : Bool) (j : ℕ) → 16 ≤ j → bit (raised i on j) k ≡ bit i k
  raised-elsewhere i on j l = bit_raised i on j k ∙ simp (ne_eqb k j (λ q. omega arith), and-false, or-false)

  notified-elsewhere : (i c : ℕ) → bit (notified i c) k ≡ bit i k
  unfolding notified
  notified-elsewhere i c = raised-elsewhere _ _ 17 (omega arith) ∙ raised-elsewhere i _ 16 (omega arith)

  at_own : (side : Side) (r v n : ℕ) (b : Bool) → bit (cond b (interrupts_written side r v n) r) k ≡ bit (cond b (written (interrupts_kept side) r v n) r) k
  at_own side r v n true =
      interrupts_written_bits side k (omega arith) r v n ∙ simp (no_flag side, and-false, or-false) (sym (bit-written k (omega arith) (interrupts_kept side) r v n))
  at_own side r v n false = refl

  by_kind : (side : Side) (kind : Kind) (st : State) (o n v : ℕ)
      → bit (interrupts_after side kind st (record { kind = kind; offset = o; enables = n; value = v })) k
      ≡ bit (cond (is_write_by (party_of side) kind && eqb o 0x38) (written (interrupts_kept side) (interrupts side st) v n) (interrupts side st)) k
  unfolding interrupts_after
  by_kind pci (reading host) st o n v = refl
  by_kind pci (reading card) st o n v = notified-elsewhere st.intcsr _
  by_kind pci (writing host) st o n v = at_own pci st.intcsr v n (eqb o 0x38)
  by_kind pci (writing card) st o n v = notified-elsewhere st.intcsr _
  by_kind addon (reading host) st o n v = notified-elsewhere st.aint _
  by_kind addon (reading card) st o n v = refl
  by_kind addon (writing host) st o n v = notified-elsewhere st.aint _
  by_kind addon (writing card) st o n v = at_own addon st.aint v n (eqb o 0x38)
  by_kind side (cycle addon) st o n v = raised-elsewhere (interrupts side st) _ 18 (omega arith)
  by_kind side (cycle pci) st o n v = raised-elsewhere (interrupts side st) _ 19 (omega arith)
  by_kind side chip_reset st o n v = refl
  by_kind side unknown st o n v = refl

-- ---- all of them

pub register_rule : RegisterRule
unfolding step_of respond answered reply_of state_after moved_state settled done_state address_after count_after mcsr_after
register_rule st start memory s e r =
    rw (e, (named s.kind).reset, r) (record {
      write_address = turn n.write_cycle _ _ _ _;
      write_count = turn n.write_cycle _ _ _ _;
      read_address = turn n.read_cycle _ _ _ _;
      read_count = turn n.read_cycle _ _ _ _;
      mcsr = λ i. cond (n.pci_write i && eqb s.offset 0x3C) (written mcsr_kept st.mcsr s.value s.enables) st.mcsr;
      intcsr =
          λ k h.
          by_kind k h pci (kind_of s.kind) st s.offset s.enables s.value
          ∙ (λ i. bit (cond (n.pci_write i && eqb s.offset 0x38) (written (interrupts_kept pci) st.intcsr s.value s.enables) st.intcsr) k);
      aint =
          λ k h.
          by_kind k h addon (kind_of s.kind) st s.offset s.enables s.value
          ∙ (λ i. bit (cond (n.addon_write i && eqb s.offset 0x38) (written (interrupts_kept addon) st.aint s.value s.enables) st.aint) k);
    })
  where
    n : Named s.kind
    n = named s.kind

    -- a register that PCI writes and a cycle steps, by the names of the kinds and by their numbers
    turn : {c d : Bool} → c ≡ d → (at : Bool) (a b old : ℕ)
        → cond (is_write_by host (kind_of s.kind) && at) a (cond c b old) ≡ cond (eqb s.kind 1 && at) a (cond d b old)
    turn f at a b old = λ i. cond (n.pci_write i && at) a (cond (f i) b old)
