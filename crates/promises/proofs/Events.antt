-- When the flags of INTCSR and AINT go up and down.
--     change-read, change-write      the mark that an access changes, by numbers
--     by_number                      a flag after a done step that is no reset
--     flag-after                     a flag after any step
use Prim.Native.Nat.{ℕ, zero, suc, ◌+◌, ◌*◌, ◌/◌, ◌%◌, ◌^◌, ◌≤◌, ◌<◌}
use mathlib.Core.Path.{◌≡◌, refl, sym, ap, ◌∙◌}
use mathlib.Core.Bool.{Bool, true, false, cond, not, ◌&&◌, ◌||◌, and-true, and-false, or-false, and_comm, true≢false}
use mathlib.Core.List.{List}
use native.Mathlib.Omega.{arith}
use lib.Dec.{eqb, leb, ltb}
use lib.ListN.{length}
use borrow.Author.Tests.{eqb-true, ne_eqb, lt-ltb, le-ltb, le-leb, lt-leb, leb-true, leb-false}
use Rattle.machine.specs.Words.{bit, raised}
use Rattle.machine.specs.Sides.{Side, pci, addon, Party, host, card, same_party}
use Rattle.machine.specs.State.{State, lane}
use Rattle.machine.specs.Access.{Access, access_of, kind_of, reading, writing, cycles, is_read_by, is_write_by}
use Rattle.machine.specs.Mailboxes.{changes}
use Rattle.machine.specs.Cycles.{count_left, runs_out}
use Rattle.machine.specs.Interrupts.{interrupts, interrupts_kept, flags, interrupts_written, outgoing_event, incoming_event, notified, interrupts_after, abort_bit, interrupts_aborted}
use Rattle.machine.specs.Code.{code_of, tests, is_count_zero}
use Rattle.machine.specs.Rights.{settled}
use Rattle.machine.specs.Step.{Outcome, step_of, respond, answered, state_after, moved_state, done_state, aborted_state}
use Rattle.machine.specs.Event.{Event}
use Rattle.machine.specs.declared.Step.{Step}
use Rattle.machine.specs.declared.Answer.{Answer}
use Rattle.laws.proofs.KindNumbers.{named}
use Rattle.laws.proofs.Bits.{bit_raised, bit_zero}
use Rattle.laws.proofs.Marks.{fills_byte, change_at}
use Rattle.laws.proofs.Tests.{none_applies, neither, and_at}
use Rattle.promises.specs.Account.{is_done, is_kind}
use Rattle.promises.specs.Events.{flag_of, enable_of, chosen_of, is_mail_event, abort_flag, own_kind, lowers, FlagThen, FlagsThen, EventRule}
use Rattle.promises.proofs.MailAccount.{at_byte}
use Rattle.promises.proofs.Readings.{kept_bits, interrupts_written_bits}
use Rattle.promises.proofs.Registers.{register_rule, reset_rule}

bit_notified : (i c k : ℕ) → bit (notified i c) k ≡ (bit i k || outgoing_event i c && eqb k 16 || incoming_event i c && eqb k 17)
unfolding notified
bit_notified i c k = bit_raised _ (incoming_event i c) 17 k ∙ (λ j. bit_raised i (outgoing_event i c) 16 k j || incoming_event i c && eqb k 17)

-- ---- the mark of byte k that an access changes

if_and : (a b : Bool) → cond a b false ≡ (a && b)
if_and true b = refl
if_and false b = refl

abbrev pub reads : Party → ℕ → ℕ → ℕ → Access
reads by o n v = record { kind = reading by; offset = o; enables = n; value = v }

abbrev pub writes : Party → ℕ → ℕ → ℕ → Access
writes by o n v = record { kind = writing by; offset = o; enables = n; value = v }

module _ (by : Party) (o n v marks k : ℕ) (h : k < 32) where
  pub change-read : bit (changes (reads by o n v) marks) k ≡ (same_party (cond (ltb k 16) card host) by && (eqb o (k / 4 * 4) && bit n (k % 4)) && bit marks k)
  change-read = change_at k (reads by o n v) marks ∙ ap (λ (b : Bool). b && bit marks k) (at_byte k h (λ b. is_read_by (cond b card host) (reading by)) o n)

  pub change-write : bit (changes (writes by o n v) marks) k ≡ (same_party (cond (ltb k 16) host card) by && (eqb o (k / 4 * 4) && bit n (k % 4)) && not (bit marks k))
  change-write =
      change_at k (writes by o n v) marks ∙ if_and (fills_byte k (writes by o n v)) (not (bit marks k))
      ∙ ap (λ (b : Bool). b && not (bit marks k)) (at_byte k h (λ b. is_write_by (cond b host card) (writing by)) o n)

-- of the byte that a half chooses
pub chosen_lt : (outgoing : Bool) (i : ℕ) → chosen_of outgoing i < 32
chosen_lt true i = omega arith
chosen_lt false i = omega arith

pub chosen_half : (outgoing : Bool) (i : ℕ) → ltb (chosen_of outgoing i) 16 ≡ outgoing
chosen_half true i = lt-ltb (i % 16) 16 (omega arith)
chosen_half false i = le-ltb (16 + i / 2 ^ 8 % 16) 16 (omega arith)

module _ (by : Party) (i o n v marks : ℕ) where
  read-event : (outgoing : Bool)
      → (let c = changes (reads by o n v) marks in let k = chosen_of outgoing i in
      cond outgoing (outgoing_event i c) (incoming_event i c)
      ≡ (bit i (enable_of outgoing) && (same_party (cond outgoing card host) by && (eqb o (k / 4 * 4) && bit n (k % 4)) && bit marks k)))
  unfolding outgoing_event incoming_event
  read-event true = ap (λ (b : Bool). bit i 4 && b) (change-read by o n v marks (chosen_of true i) (chosen_lt true i) ∙ rw (chosen_half true i))
  read-event false = ap (λ (b : Bool). bit i 12 && b) (change-read by o n v marks (chosen_of false i) (chosen_lt false i) ∙ rw (chosen_half false i))

  write-event : (outgoing : Bool)
      → (let c = changes (writes by o n v) marks in let k = chosen_of outgoing i in
      cond outgoing (outgoing_event i c) (incoming_event i c)
      ≡ (bit i (enable_of outgoing) && (same_party (cond outgoing host card) by && (eqb o (k / 4 * 4) && bit n (k % 4)) && not (bit marks k))))
  unfolding outgoing_event incoming_event
  write-event true = ap (λ (b : Bool). bit i 4 && b) (change-write by o n v marks (chosen_of true i) (chosen_lt true i) ∙ rw (chosen_half true i))
  write-event false = ap (λ (b : Bool). bit i 12 && b) (change-write by o n v marks (chosen_of false i) (chosen_lt false i) ∙ rw (chosen_half false i))

-- ---- a flag after a done step

swap_event : (b a c : Bool) → (b || a && c) ≡ (b && true || c && a)
swap_event true a c = refl
swap_event false a c = and_comm a c

module _ (side : Side) (k : ℕ) (h : k < 32) (f : bit (flags side) k ≡ true) where
  -- no flag is below 16
  high : 16 ≤ k
  high = by (leb 16 k) refl side f
    where
      by : (b : Bool) → leb 16 k ≡ b → (of : Side) → bit (flags of) k ≡ true → 16 ≤ k
      by true e of g = leb-true 16 k e
      by false e pci g = absurd (true≢false (sym g ∙ (kept_bits k h).pci_flags ∙ rw e))
      by false e addon g = let l = leb-false 16 k e in absurd (true≢false (sym g ∙ (kept_bits k h).addon_flags ∙ rw (e, ne_eqb k 21 (λ q. omega arith))))

  not-kept : (of : Side) → bit (interrupts_kept of) k ≡ false
  not-kept of =
      let l = high in
      kept of
      ∙ simp (lt-leb k 4 (omega arith), lt-leb k 12 (omega arith), ne_eqb k 14 (λ q. omega arith), ne_eqb k 15 (λ q. omega arith), and-false)
    where
      kept : (by : Side) → bit (interrupts_kept by) k ≡ (leb k 4 || leb 8 k && leb k 12 || eqb k 14 || eqb k 15)
      kept pci = (kept_bits k h).intcsr
      kept addon = (kept_bits k h).aint

  -- nothing is set, nothing acknowledged
  quiet : (b : Bool) → b ≡ (b && not false || (eqb k 16 && false || eqb k 17 && false || eqb k 18 && false || eqb k 19 && false))
  quiet b = sym (simp (and-true, and-false, or-false))

  -- the side writes its register
  own-write : (r o n v : ℕ) (b : Bool) → eqb o 0x38 ≡ b
      → bit (cond b (interrupts_written side r v n) r) k
      ≡ (bit r k && not (b && bit n (k / 8) && bit v k) || (eqb k 16 && false || eqb k 17 && false || eqb k 18 && false || eqb k 19 && false))
  own-write r o n v true e = interrupts_written_bits side k h r v n ∙ simp (not-kept, f, and-false, and-true, or-false, and_comm (bit v k) (bit n (k / 8)))
  own-write r o n v false e = quiet (bit r k)

only_outgoing : (b a z : Bool) (k : ℕ) → (b || a && eqb k 16 || z && false && eqb k 17) ≡ (b && true || (eqb k 16 && a || eqb k 17 && false || eqb k 18 && false || eqb k 19 && false))
only_outgoing b a z k = simp (and-false, or-false) (swap_event b a (eqb k 16))

only_incoming : (b a z : Bool) (k : ℕ) → (b || z && false && eqb k 16 || a && eqb k 17) ≡ (b && true || (eqb k 16 && false || eqb k 17 && a || eqb k 18 && false || eqb k 19 && false))
only_incoming b a z k = simp (and-false, or-false) (swap_event b a (eqb k 17))

-- what sets flag k in a done step that is no reset; a count that runs out is the machine's
abbrev sets_bit : Side → ℕ → State → Event → Bool
sets_bit side k st e =
    let i = interrupts side st in
    eqb k 16 && is_mail_event side true i st.marks e || eqb k 17 && is_mail_event side false i st.marks e
    || eqb k 18 && (is_kind 4 e && runs_out st.from_addon.count)
    || eqb k 19 && (is_kind 5 e && runs_out st.from_pci.count)

abbrev made_by : ℕ → ℕ → ℕ → ℕ → Access
made_by n o e v = record { kind = kind_of n; offset = o; enables = e; value = v }

abbrev event_by : ℕ → ℕ → ℕ → ℕ → Answer → Event
event_by n o e v a = record { step = record { kind = n; offset = o; enables = e; value = v }; answer = a }

by_number : (side : Side) (k : ℕ) → k < 32 → bit (flags side) k ≡ true → (n : ℕ) (st : State) (o e v : ℕ) (a : Answer)
    → bit (interrupts_after side (kind_of n) st (made_by n o e v)) k
    ≡ (bit (interrupts side st) k && not (eqb n (own_kind side) && eqb o 0x38 && bit e (k / 8) && bit v k) || sets_bit side k st (event_by n o e v a))
unfolding interrupts_after
by_number pci k h f zero st o e v a = quiet pci k h f (bit st.intcsr k)
by_number addon k h f zero st o e v a =
    bit_notified st.aint _ k
    ∙ (λ j. bit st.aint k || read-event host st.aint o e v st.marks true j && eqb k 16 || read-event host st.aint o e v st.marks false j && eqb k 17)
    ∙ only_incoming (bit st.aint k) _ (bit st.aint 4) k
by_number pci k h f (suc zero) st o e v a = own-write pci k h f st.intcsr o e v (eqb o 0x38) refl
by_number addon k h f (suc zero) st o e v a =
    bit_notified st.aint _ k
    ∙ (λ j. bit st.aint k || write-event host st.aint o e v st.marks true j && eqb k 16 || write-event host st.aint o e v st.marks false j && eqb k 17)
    ∙ only_outgoing (bit st.aint k) _ (bit st.aint 12) k
by_number pci k h f (suc (suc zero)) st o e v a =
    bit_notified st.intcsr _ k
    ∙ (λ j. bit st.intcsr k || read-event card st.intcsr o e v st.marks true j && eqb k 16 || read-event card st.intcsr o e v st.marks false j && eqb k 17)
    ∙ only_outgoing (bit st.intcsr k) _ (bit st.intcsr 12) k
by_number addon k h f (suc (suc zero)) st o e v a = quiet addon k h f (bit st.aint k)
by_number pci k h f (suc (suc (suc zero))) st o e v a =
    bit_notified st.intcsr _ k
    ∙ (λ j. bit st.intcsr k || write-event card st.intcsr o e v st.marks true j && eqb k 16 || write-event card st.intcsr o e v st.marks false j && eqb k 17)
    ∙ only_incoming (bit st.intcsr k) _ (bit st.intcsr 4) k
by_number addon k h f (suc (suc (suc zero))) st o e v a = own-write addon k h f st.aint o e v (eqb o 0x38) refl
by_number pci k h f (suc (suc (suc (suc zero)))) st o e v a =
    bit_raised st.intcsr _ 18 k ∙ simp (and-false, or-false) (swap_event (bit st.intcsr k) _ (eqb k 18))
by_number addon k h f (suc (suc (suc (suc zero)))) st o e v a =
    bit_raised st.aint _ 18 k ∙ simp (and-false, or-false) (swap_event (bit st.aint k) _ (eqb k 18))
by_number pci k h f (suc (suc (suc (suc (suc zero))))) st o e v a =
    bit_raised st.intcsr _ 19 k ∙ simp (and-false) (swap_event (bit st.intcsr k) _ (eqb k 19))
by_number addon k h f (suc (suc (suc (suc (suc zero))))) st o e v a =
    bit_raised st.aint _ 19 k ∙ simp (and-false) (swap_event (bit st.aint k) _ (eqb k 19))
by_number pci k h f (suc (suc (suc (suc (suc (suc zero)))))) st o e v a = quiet pci k h f (bit st.intcsr k)
by_number addon k h f (suc (suc (suc (suc (suc (suc zero)))))) st o e v a = quiet addon k h f (bit st.aint k)
by_number pci k h f (suc (suc (suc (suc (suc (suc (suc n))))))) st o e v a =
    let m = suc (suc (suc (suc (suc (suc (suc n)))))) in
    rw (ne_eqb m 1 (λ q. omega arith), ne_eqb m 2 (λ q. omega arith), ne_eqb m 3 (λ q. omega arith), ne_eqb m 4 (λ q. omega arith), ne_eqb m 5 (λ q. omega arith)) (quiet pci k h f (bit st.intcsr k))
by_number addon k h f (suc (suc (suc (suc (suc (suc (suc n))))))) st o e v a =
    let m = suc (suc (suc (suc (suc (suc (suc n)))))) in
    rw (ne_eqb m 3 (λ q. omega arith), ne_eqb m 1 (λ q. omega arith), ne_eqb m 0 (λ q. omega arith), ne_eqb m 4 (λ q. omega arith), ne_eqb m 5 (λ q. omega arith)) (quiet addon k h f (bit st.aint k))

-- ---- after any step

abort_is : (side : Side) → abort_bit side ≡ abort_flag side
abort_is pci = refl
abort_is addon = refl

-- a reset sets none
none_set : (side : Side) (k : ℕ) (st : State) (e : Event) → e.step.kind ≡ 6 → sets_bit side k st e ≡ false
none_set pci k st e q = rw q (simp (and-false))
none_set addon k st e q = rw q (simp (and-false))

module _ (st : State) (start : ℕ) (memory : List ℕ) (s : Step) where
  abbrev then : Outcome
  then = step_of st start memory s

  abbrev number : ℕ
  number = code_of st start (length memory) (access_of s)

  abbrev event : Event
  event = record { step = s; answer = then.answer }

  number_is : then.answer.code ≡ number
  unfolding step_of respond answered
  number_is = refl

  reset-interrupts : (side : Side) → then.answer.code ≡ 0 → eqb s.kind 6 ≡ true → interrupts side then.state ≡ 0
  reset-interrupts pci e r = ap (λ (o : Outcome). o.state.intcsr) (reset_rule st start memory s e r)
  reset-interrupts addon e r = ap (λ (o : Outcome). o.state.aint) (reset_rule st start memory s e r)

  done-interrupts : (side : Side) → number ≡ 0 → eqb s.kind 6 ≡ false → interrupts side then.state ≡ interrupts_after side (kind_of s.kind) st (access_of s)
  unfolding step_of respond state_after moved_state settled done_state
  done-interrupts pci e r = rw (e, (named s.kind).reset, r)
  done-interrupts addon e r = rw (e, (named s.kind).reset, r)

  pub refused-interrupts : (side : Side) → eqb number 0 ≡ false → interrupts side then.state ≡ raised (interrupts side st) (eqb number 13) (abort_bit side)
  unfolding step_of respond state_after aborted_state interrupts_aborted raised
  refused-interrupts side e = rw e (by side (eqb number 13))
    where
      by : (of : Side) (b : Bool) → interrupts of (cond b (aborted_state st) st) ≡ raised (interrupts of st) b (abort_bit of)
      by pci true = refl
      by pci false = refl
      by addon true = refl
      by addon false = refl

  -- whatever raises it
  flag-after : (side : Side) (k : ℕ) → k < 32 → k / 8 ≡ 2 → bit (flags side) k ≡ true
      → FlagThen side k st event then.state (is_done event && sets_bit side k st event || eqb k (abort_flag side) && eqb then.answer.code 13)
  flag-after side k h c f = by (eqb number 0) (eqb s.kind 6) refl refl
    where
      i : ℕ
      i = interrupts side st

      by : (d r : Bool) → eqb number 0 ≡ d → eqb s.kind 6 ≡ r
          → FlagThen side k st event then.state (is_done event && sets_bit side k st event || eqb k (abort_flag side) && eqb then.answer.code 13)
      by true true d r =
          let zero = number_is ∙ eqb-true number 0 d in
          ap (λ (w : ℕ). bit w k) (reset-interrupts side zero r) ∙ bit_zero k
          ∙ sym (rw (zero, r, none_set side k st event (eqb-true s.kind 6 r)) (simp (and-false, or-false)))
      by true false d r =
          let zero = eqb-true number 0 d in
          ap (λ (w : ℕ). bit w k) (done-interrupts side zero r)
          ∙ rw c at (by_number side k h f s.kind st s.offset s.enables s.value then.answer)
          ∙ sym (rw (number_is ∙ zero, r) (simp (and-false, or-false)))
      by false r d q =
          ap (λ (w : ℕ). bit w k) (refused-interrupts side d) ∙ bit_raised i (eqb number 13) (abort_bit side) k
          ∙ sym (rw (number_is, d, abort_is side) (simp (and-true) (ap (λ (b : Bool). bit i k || b) (and_comm (eqb k (abort_flag side)) (eqb number 13)))))

  -- ---- each of them

  flag-bit : (side : Side) (k : ℕ) → 16 ≤ k → k ≤ 19 → bit (flags side) k ≡ true
  flag-bit pci k l m = (kept_bits k (omega arith)).pci_flags ∙ rw (le-leb 16 k l, le-leb k 21 (omega arith))
  flag-bit addon k l m = (kept_bits k (omega arith)).addon_flags ∙ rw (le-leb 16 k l, le-leb k 19 m)

  no_abort : (side : Side) (k : ℕ) → k ≤ 19 → eqb k (abort_flag side) ≡ false
  no_abort pci k m = ne_eqb k 20 (λ q. omega arith)
  no_abort addon k m = ne_eqb k 21 (λ q. omega arith)

  -- one of 16 to 19
  low-flag : (side : Side) (k : ℕ) → 16 ≤ k → k ≤ 19 → FlagThen side k st event then.state (is_done event && sets_bit side k st event)
  low-flag side k l m = flag-after side k (omega arith) (omega arith) (flag-bit side k l m) ∙ simp (no_abort side k m, or-false)

  -- code 10: a done cycle's count was not zero
  some_left : (of : Side) → then.answer.code ≡ 0 → cycles of (kind_of s.kind) ≡ true → eqb (lane of st).count 0 ≡ false
  unfolding step_of respond answered code_of is_count_zero
  some_left of e c =
      and_at (cycles of (kind_of s.kind)) _ c (neither (λ side. cycles side (kind_of s.kind) && eqb (lane side st).count 0) (none_applies (tests st start (length memory) (access_of s)) refl e 10) of)

  used-up : (d c : Bool) (before after : ℕ) → (d ≡ true → c ≡ true → (eqb before 0 ≡ false) × (after ≡ count_left before))
      → (d && (c && runs_out before)) ≡ (d && (c && (not (eqb before 0) && eqb after 0)))
  used-up true true before after f = let g = f refl refl in rw (g.0, g.1)
  used-up true false before after f = refl
  used-up false c before after f = refl

  write-left : eqb then.answer.code 0 ≡ true → eqb s.kind 4 ≡ true → (eqb st.from_addon.count 0 ≡ false) × (then.state.from_addon.count ≡ count_left st.from_addon.count)
  write-left d c =
      let zero = eqb-true then.answer.code 0 d in
      let four = eqb-true s.kind 4 c in
      (some_left addon zero ((named s.kind).write_cycle ∙ c), (register_rule st start memory s zero (rw four)).write_count ∙ rw four)

  read_left : eqb then.answer.code 0 ≡ true → eqb s.kind 5 ≡ true → (eqb st.from_pci.count 0 ≡ false) × (then.state.from_pci.count ≡ count_left st.from_pci.count)
  read_left d c =
      let zero = eqb-true then.answer.code 0 d in
      let five = eqb-true s.kind 5 c in
      (some_left pci zero ((named s.kind).read_cycle ∙ c), (register_rule st start memory s zero (rw five)).read_count ∙ rw five)

  flags-then : (side : Side) → FlagsThen side st event then.state
  flags-then side =
      record {
        mail = mail;
        write_count =
            low-flag side 18 (omega arith) (omega arith)
            ∙ ap (λ (b : Bool). bit (interrupts side st) 18 && not (lowers side 18 event) || b) (simp or-false (used-up (is_done event) (is_kind 4 event) _ _ write-left));
        read_count =
            low-flag side 19 (omega arith) (omega arith)
            ∙ ap (λ (b : Bool). bit (interrupts side st) 19 && not (lowers side 19 event) || b) (used-up (is_done event) (is_kind 5 event) _ _ read_left);
        abort = abort side;
      }
    where
      mail : (outgoing : Bool) → FlagThen side (flag_of outgoing) st event then.state (is_done event && is_mail_event side outgoing (interrupts side st) st.marks event)
      mail true = low-flag side 16 (omega arith) (omega arith) ∙ simp or-false
      mail false = low-flag side 17 (omega arith) (omega arith) ∙ simp or-false

      abort : (of : Side) → FlagThen of (abort_flag of) st event then.state (eqb then.answer.code 13)
      abort pci = flag-after pci 20 (omega arith) refl (kept_bits 20 (omega arith)).pci_flags ∙ simp (and-false)
      abort addon = flag-after addon 21 (omega arith) refl (kept_bits 21 (omega arith)).addon_flags ∙ simp (and-false)

  nothing-raises : FlagThen pci 21 st event then.state false
  nothing-raises = flag-after pci 21 (omega arith) refl (kept_bits 21 (omega arith)).pci_flags ∙ simp (and-false)

pub event_rule : EventRule
event_rule st start memory s = (flags-then st start memory s, nothing-raises st start memory s)
