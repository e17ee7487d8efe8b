-- What the proofs of a step need of the machine's rules.
use Prim.Native.Nat.{ℕ, ◌%◌, ◌<◌}
use mathlib.Core.Path.{◌≡◌, refl, sym, ◌∙◌}
use mathlib.Core.Bool.{Bool, true, false, cond, not, ◌&&◌, ◌||◌, and-false, true≢false}
use mathlib.Core.List.{List}
use native.Mathlib.Omega.{arith}
use lib.Bits.{xor_zero_r}
use lib.Dec.{eqb, leb, ltb}
use lib.ListN.{length, drop}
use Rattle.laws.proofs.Tests.{none_applies, neither, and_left, and_at, or_right}
use Rattle.laws.proofs.Bits.{bit_zero}
use Rattle.laws.proofs.Done.{room_to_write}
use borrow.Author.Tests.{eqb-false, ltb-true, leb-true, ne_eqb, not-false}
use Rattle.machine.specs.Words.{raised}
use Rattle.machine.specs.Sides.{Side, pci, addon, other, party_of}
use Rattle.machine.specs.State.{State, held, reset_state}
use Rattle.machine.specs.Offsets.{is_mailbox, fifo_port, in_table}
use Rattle.machine.specs.BySide.{read_kind, write_kind}
use Rattle.machine.specs.Access.{Access, is_reset, cycles, access_of, reads, writes}
use Rattle.machine.specs.Mailboxes.{changes, marks_after, mail_after}
use Rattle.machine.specs.Mcsr.{mcsr_after}
use Rattle.machine.specs.Cycles.{address_after, count_after, right_after}
use Rattle.machine.specs.Interrupts.{outgoing_event, incoming_event, notified, interrupts_after}
use Rattle.machine.specs.Rights.{settled}
use Rattle.machine.specs.Fifos.{is_full, front}
use Rattle.machine.specs.Code.{step_tests, is_unknown_offset, is_port_stuck, is_full_or_empty}
use Rattle.machine.specs.declared.Step.{Step}
use Rattle.machine.specs.declared.Answer.{Answer}
use Rattle.refusal.specs.Codes.{access_code}
use Rattle.step.specs.Parts.{settled_outcome, mail_stored, controlled, registers_written, interrupts_stored, lane_changed, without_front, with_last, event_told}
use Rattle.bank.specs.declared.Bank.{Bank}
use Rattle.bank.specs.Bank.{state_in}
use Rattle.bank.specs.Words.{bank_in, state_of_words}
use Rattle.machine.specs.Step.{Reply, nothing, showing, register, read_value, done_reply, moved_state, done_state, reply_of, answered, state_after, memory_after, respond}

-- a refusal: the state and the memory stay
pub refusal : (st : State) (start : ℕ) (memory : List ℕ) (x : Access) (code : ℕ) → (code ≡ 0 → ⊥) → (code ≡ 13 → ⊥)
    → record { state = st; memory = memory; answer = answered st code nothing } ≡ respond st start memory x code
unfolding respond reply_of state_after memory_after
refusal st start memory x code other h = simp (ne_eqb code 0 other, ne_eqb code 13 h)

-- what is not done has no right to end
pub not_done_lem : (st : State) (memory : List ℕ) (code : ℕ) (reply : Reply) → (code ≡ 0 → ⊥)
    → settled_outcome (record { state = st; memory = memory; answer = answered st code reply }) ≡ record { state = st; memory = memory; answer = answered st code reply }
unfolding answered settled_outcome
not_done_lem st memory code reply other = rw (ne_eqb code 0 other)

pub refused : (st : State) (start : ℕ) (memory : List ℕ) (x : Access) (code : ℕ) → (code ≡ 0 → ⊥) → (code ≡ 13 → ⊥)
    → settled_outcome (record { state = st; memory = memory; answer = answered st code nothing }) ≡ respond st start memory x code
refused st start memory x code other h = not_done_lem st memory code nothing other ∙ refusal st start memory x code other h

-- nor has a state without one
neither_stands : (a b : Bool) → not (a || b) ≡ true → (a ≡ false) × (b ≡ false)
neither_stands true b e = absurd (true≢false (sym e))
neither_stands false true e = absurd (true≢false (sym e))
neither_stands false false e = (refl, refl)

pub none_stands : (l : List ℕ) (b : Bank) → b ≡ bank_in l → not (b.from_pci.right || b.from_addon.right) ≡ true → settled (state_of_words l) ≡ state_of_words l
unfolding state_in settled
none_stands l b e h = rw (sym (λ i. (e i).from_pci.right) ∙ none.0, sym (λ i. (e i).from_addon.right) ∙ none.1)
  where
    none : (b.from_pci.right ≡ false) × (b.from_addon.right ≡ false)
    none = neither_stands b.from_pci.right b.from_addon.right h

pub either_way : (b : Bool) (x y : State) → x ≡ y → cond b x y ≡ y
either_way true x y e = e
either_way false x y e = refl

-- nor has what a reset leaves
pub settled_reset : (memory : List ℕ) → settled_outcome (record { state = reset_state; memory = memory; answer = answered reset_state 0 nothing }) ≡ record { state = reset_state; memory = memory; answer = answered reset_state 0 nothing }
unfolding answered settled settled_outcome
settled_reset memory = refl

-- ---- code 8: a port that is read holds a word, a port that is written has room

port_free : (st : State) (x : Access) → access_code st x ≡ 0 → is_full_or_empty st x ≡ false
port_free st x e = none_applies (drop 3 (step_tests st 0 0 x)) refl e 8

word_to_read : (side : Side) (st : State) (x : Access) → is_full_or_empty st x ≡ false → reads (party_of (other side)) fifo_port x ≡ true → 0 < length (held side st)
unfolding is_full_or_empty
word_to_read side st x e r =
    let some = eqb-false (length (held side st)) 0 (and_at (reads (party_of (other side)) fifo_port x) _ r (or_right (writes (party_of side) fifo_port x && is_full (held side st)) _ (neither (λ s. is_port_stuck s st x) e side))) in
    positive (length (held side st)) some
  where
    positive : (n : ℕ) → (n ≡ 0 → ⊥) → 0 < n
    positive n h = omega arith

module _ (st : State) (s : Step) (done : access_code st (access_of s) ≡ 0) (port : s.offset ≡ 0x20) where
  free : is_full_or_empty st (access_of s) ≡ false
  free = port_free st (access_of s) done

  pub port-read : (side : Side) → s.kind ≡ read_kind side → 0 < length (held (other side) st)
  port-read pci k = word_to_read addon st (access_of s) free (rw (k, port))
  port-read addon k = word_to_read pci st (access_of s) free (rw (k, port))

  pub port-write : (side : Side) → s.kind ≡ write_kind side → length (held side st) < 8
  port-write pci k = room_to_write pci st (access_of s) free (rw (k, port))
  port-write addon k = room_to_write addon st (access_of s) free (rw (k, port))

-- ---- done steps that are no reset

pub done_step : (st : State) (start : ℕ) (memory : List ℕ) (x : Access) (code : ℕ) (after : State) (reply : Reply) (answer : Answer)
    → code ≡ 0 → is_reset x.kind ≡ false → cycles addon x.kind ≡ false → reply ≡ done_reply x.kind st start memory x → after ≡ moved_state st x reply.value
    → answer ≡ answered after 0 reply → settled_outcome (record { state = after; memory = memory; answer = answer }) ≡ respond st start memory x code
unfolding respond reply_of state_after memory_after done_state answered settled settled_outcome
done_step st start memory x code after reply answer zero reset store r a w = rw (zero, w) (simp (reset, store, ← r, ← a))

-- reads away from the FIFO port: what may change, and that nothing else does
module _ (st : State) (s : Step) (elsewhere : s.offset ≡ 0x20 → ⊥) (word : ℕ) where
  pub read-state : (side : Side) → s.kind ≡ read_kind side → event_told (other side) (changes (access_of s) st.marks) st ≡ moved_state st (access_of s) word
  unfolding moved_state mail_after marks_after address_after count_after right_after interrupts_after mcsr_after
  read-state pci k = rw k (simp (ne_eqb s.offset 0x20 elsewhere))
  read-state addon k = rw k (simp (ne_eqb s.offset 0x20 elsewhere))

  pub read-reply : (side : Side) (start : ℕ) (memory : List ℕ) → s.kind ≡ read_kind side → showing (register side st s.offset) (changes (access_of s) st.marks) ≡ done_reply (access_of s).kind st start memory (access_of s)
  unfolding done_reply read_value
  read-reply pci start memory k = rw k (simp (ne_eqb s.offset 0x20 elsewhere))
  read-reply addon start memory k = rw k (simp (ne_eqb s.offset 0x20 elsewhere))

-- reads and writes at it
module _ (st : State) (s : Step) (port : s.offset ≡ 0x20) (word : ℕ) where
  pub port-read-state : (side : Side) → s.kind ≡ read_kind side → lane_changed (other side) without_front st ≡ moved_state st (access_of s) word
  unfolding moved_state mail_after changes marks_after address_after count_after right_after interrupts_after notified outgoing_event incoming_event raised mcsr_after
  port-read-state pci k = rw (k, port) (simp (xor_zero_r, bit_zero, and-false))
  port-read-state addon k = rw (k, port) (simp (xor_zero_r, bit_zero, and-false))

  pub port-write-state : (side : Side) → s.kind ≡ write_kind side → lane_changed side (with_last s.value) st ≡ moved_state st (access_of s) word
  unfolding moved_state mail_after changes marks_after address_after count_after right_after interrupts_after notified outgoing_event incoming_event raised mcsr_after
  port-write-state pci k = rw (k, port) (simp (xor_zero_r, bit_zero, and-false))
  port-write-state addon k = rw (k, port) (simp (xor_zero_r, bit_zero, and-false))

  pub port-reply : (side : Side) (start : ℕ) (memory : List ℕ) → s.kind ≡ read_kind side → showing (front (held (other side) st)) 0 ≡ done_reply (access_of s).kind st start memory (access_of s)
  unfolding done_reply read_value changes
  port-reply pci start memory k = rw (k, port)
  port-reply addon start memory k = rw (k, port)

-- a mailbox is at none of the other registers' offsets
not_at : (o k : ℕ) → is_mailbox o ≡ true → leb 0x20 k ≡ true → eqb o k ≡ false
not_at o k box h = let low = ltb-true o 0x20 (and_left (ltb o 0x20) (eqb (o % 4) 0) box) in ne_eqb o k (λ e. omega (arith, e, low, leb-true 0x20 k h))

-- writes to mailboxes
module _ (st : State) (s : Step) (box : is_mailbox s.offset ≡ true) where
  pub mail-state : (side : Side) → s.kind ≡ write_kind side → event_told (other side) (changes (access_of s) st.marks) (mail_stored (access_of s) st) ≡ moved_state st (access_of s) 0
  unfolding moved_state marks_after address_after count_after right_after interrupts_after mcsr_after
  mail-state pci k = rw k (simp (not_at s.offset 0x20 box refl, not_at s.offset 0x24 box refl, not_at s.offset 0x28 box refl, not_at s.offset 0x2C box refl, not_at s.offset 0x30 box refl, not_at s.offset 0x38 box refl, not_at s.offset 0x3C box refl))
  mail-state addon k = rw k (simp (not_at s.offset 0x20 box refl, not_at s.offset 0x38 box refl, not_at s.offset 0x3C box refl))

-- the Add-On has no address and no count
pub in_addon_table : (st : State) (s : Step) → access_code st (access_of s) ≡ 0 → s.kind ≡ 3 → in_table addon s.offset ≡ true
unfolding is_unknown_offset
in_addon_table st s e k = not-false _ (rw k at (none_applies (drop 3 (step_tests st 0 0 (access_of s))) refl e 4))

apart : (o k : ℕ) → in_table addon k ≡ false → in_table addon o ≡ true → eqb o k ≡ false
apart o k none t = ne_eqb o k (λ e. true≢false (sym t ∙ (λ i. in_table addon (e i)) ∙ none))

-- writes to interrupt and control registers, to addresses and counts
module _ (st : State) (s : Step) where
  pub interrupts-state : (side : Side) → s.kind ≡ write_kind side → s.offset ≡ 0x38 → interrupts_stored side (access_of s) st ≡ moved_state st (access_of s) 0
  unfolding moved_state mail_after changes marks_after address_after count_after right_after interrupts_after notified outgoing_event incoming_event raised mcsr_after
  interrupts-state pci k at = rw (k, at) (simp (xor_zero_r, bit_zero, and-false))
  interrupts-state addon k at = rw (k, at) (simp (xor_zero_r, bit_zero, and-false))

  pub control-state : (side : Side) → s.kind ≡ write_kind side → s.offset ≡ 0x3C → controlled (access_of s) st ≡ moved_state st (access_of s) 0
  unfolding moved_state mail_after changes marks_after address_after count_after right_after interrupts_after notified outgoing_event incoming_event raised
  control-state pci k at = rw (k, at) (simp (xor_zero_r, bit_zero, and-false))
  control-state addon k at = rw (k, at) (simp (xor_zero_r, bit_zero, and-false))

  pub transfer-state : (side : Side) → s.kind ≡ write_kind side → is_mailbox s.offset ≡ false → (s.offset ≡ 0x20 → ⊥) → (s.offset ≡ 0x38 → ⊥) → (s.offset ≡ 0x3C → ⊥) → access_code st (access_of s) ≡ 0
      → lane_changed addon (registers_written addon (access_of s)) (lane_changed pci (registers_written pci (access_of s)) st) ≡ moved_state st (access_of s) 0
  unfolding moved_state mail_after changes marks_after address_after count_after right_after interrupts_after notified outgoing_event incoming_event raised mcsr_after
  transfer-state pci k box port at control done = rw (k, box) (simp (ne_eqb s.offset 0x20 port, ne_eqb s.offset 0x38 at, ne_eqb s.offset 0x3C control, xor_zero_r, bit_zero, and-false))
  transfer-state addon k box port at control done =
      let t = in_addon_table st s done k in
      rw (k, box) (simp (apart s.offset 0x24 refl t, apart s.offset 0x28 refl t, apart s.offset 0x2C refl t, apart s.offset 0x30 refl t, ne_eqb s.offset 0x20 port, ne_eqb s.offset 0x38 at, ne_eqb s.offset 0x3C control, xor_zero_r, bit_zero, and-false))

-- a write answers no more than the marks that it changed; away from the mailboxes there are none
no_change : (x : Access) (marks : ℕ) → is_mailbox x.offset ≡ false → changes x marks ≡ 0
unfolding changes
no_change x marks box = simp (box, and-false)

module _ (st : State) (start : ℕ) (memory : List ℕ) (s : Step) where
  pub write-reply : (side : Side) → s.kind ≡ write_kind side → showing 0 (changes (access_of s) st.marks) ≡ done_reply (access_of s).kind st start memory (access_of s)
  unfolding done_reply
  write-reply pci k = rw k
  write-reply addon k = rw k

  pub plain-write-reply : (side : Side) → s.kind ≡ write_kind side → is_mailbox s.offset ≡ false → showing 0 0 ≡ done_reply (access_of s).kind st start memory (access_of s)
  plain-write-reply side k box = (λ i. showing 0 (sym (no_change (access_of s) st.marks box) i)) ∙ write-reply side k
