-- The marks that answers tell of, and the events of messages.
use Prim.Native.Nat.{ℕ, zero, suc, ◌*◌, ◌/◌, ◌%◌, ◌^◌, ◌<◌, ◌≤◌}
use mathlib.Core.Path.{◌≡◌, refl, sym, ap, ◌∙◌}
use mathlib.Core.Bool.{Bool, true, false, cond, not, ◌&&◌, ◌||◌, and-true, and-false, or-false, true≢false, false≢true}
use mathlib.Core.List.{List, [], ◌∷◌, ◌++◌, map, nil≢cons, head-eq_of_cons-eq, tail-eq_of_cons-eq}
use native.Mathlib.Omega.{arith}
use lib.Dec.{eqb, ltb}
use lib.Bits.{bit_xor}
use lib.ListN.{length}
use borrow.Author.Tests.{eqb-true, ne_eqb, ltb-true}
use Rattle.machine.specs.Words.{bit, any_of}
use Rattle.machine.specs.Sides.{Side, pci, addon, host, card}
use Rattle.machine.specs.State.{State}
use Rattle.machine.specs.Access.{Access, access_of, kind_of}
use Rattle.machine.specs.Mailboxes.{changes, marks_after}
use Rattle.machine.specs.Interrupts.{interrupts, abort_bit}
use Rattle.machine.specs.Code.{code_of}
use Rattle.machine.specs.Rights.{settled}
use Rattle.machine.specs.Step.{Outcome, step_of, respond, answered, reply_of, state_after, moved_state, done_state}
use Rattle.machine.specs.Event.{Event}
use Rattle.machine.specs.Run.{run}
use Rattle.machine.specs.declared.Step.{Step}
use Rattle.laws.proofs.Tests.{and_left, and_right}
use Rattle.laws.proofs.KindNumbers.{named}
use Rattle.laws.proofs.Bits.{bit_raised, bit_low, bit_xor_lem, bit_zero, by_bits, xor_twice}
use Rattle.laws.proofs.Marks.{fills_byte, takes_byte, change_at}
use Rattle.promises.specs.Account.{write, read, clear, none, is_done, is_kind, is_at, owner_writes, other_reads, clears_bytes, touch, Every}
use Rattle.promises.specs.Events.{flag_of, enable_of, chosen_of, telling_kind, is_read_kind, is_mail_event, own_kind}
use Rattle.promises.specs.Readings.{is_access_kind, ChangedRule}
use Rattle.promises.specs.Messages.{ChangedWay, tells, leaves_interrupts, DriverCounts, takes_back, OneMessage}
use Rattle.promises.proofs.MailAccount.{touched, mark_event}
use Rattle.promises.proofs.Events.{change-read, change-write, chosen_lt, chosen_half, refused-interrupts, event_rule}
use Rattle.promises.proofs.Registers.{register_rule}
use Rattle.promises.proofs.Answers.{changed_is}

-- ---- the changed marks of an answer

-- a read or a write is no reset
no_reset : (k : ℕ) → is_access_kind k ≡ true → eqb k 6 ≡ false
no_reset k e = by (eqb k 6) refl
  where
    by : (b : Bool) → eqb k 6 ≡ b → b ≡ false
    by true q = absurd (false≢true (sym (ap is_access_kind (eqb-true k 6 q)) ∙ e))
    by false q = refl

module _ (st : State) (start : ℕ) (memory : List ℕ) (s : Step) where
  abbrev x : Access
  x = access_of s

  abbrev code : ℕ
  code = code_of st start (length memory) x

  -- a step that is no mailbox access changes none
  elsewhere : ltb s.offset 0x20 ≡ false → changes x st.marks ≡ 0
  unfolding changes
  elsewhere e = simp (e, and-false)

  -- a done access below offset 20 is no clear and no reset
  marks-turned : (word : ℕ) → eqb s.kind 6 ≡ false → s.offset < 0x20 → (state_after st x 0 word).marks ≡ bit_xor st.marks (changes x st.marks)
  unfolding state_after moved_state settled done_state marks_after
  marks-turned word k h = rw ((named s.kind).reset, k) (simp (ne_eqb s.offset 0x3C (λ q. omega arith), and-false))

  by_place : (word : ℕ) (a b : Bool) → is_access_kind s.kind ≡ a → ltb s.offset 0x20 ≡ b
      → cond a (changes x st.marks) 0 ≡ cond (a && b) (bit_xor st.marks (state_after st x 0 word).marks) 0
  by_place word true true e f =
      sym (ap (bit_xor st.marks) (marks-turned word (no_reset s.kind e) (ltb-true s.offset 0x20 f)) ∙ xor_twice st.marks (changes x st.marks))
  by_place word true false e f = elsewhere f
  by_place word false b e f = refl

pub changed_rule : ChangedRule
unfolding step_of respond answered
changed_rule st start memory s = changed_is st start memory s ∙ by (eqb c 0) refl
  where
    c : ℕ
    c = code_of st start (length memory) (access_of s)

    by : (b : Bool) → eqb c 0 ≡ b
        → cond (b && is_access_kind s.kind) (changes (access_of s) st.marks) 0
        ≡ cond (b && (is_access_kind s.kind && ltb s.offset 0x20)) (bit_xor st.marks (state_after st (access_of s) c (reply_of st start memory (access_of s) c).value).marks) 0
    by true e = rw (eqb-true c 0 e) (by_place st start memory s _ (is_access_kind s.kind) (ltb s.offset 0x20) refl refl)
    by false e = refl

-- ---- which way they changed

false_is_not : {A : Type 0} → false ≡ true → A
false_is_not e = absurd (false≢true e)

way : (n k o e v marks : ℕ) → bit (changes (record { kind = kind_of n; offset = o; enables = e; value = v }) marks) k ≡ true → bit marks k ≡ is_read_kind n
way n k o e v marks h = by n (sym (change_at k (record { kind = kind_of n; offset = o; enables = e; value = v }) marks) ∙ h)
  where
    full : (a b : Bool) → (a && b) ≡ true → b ≡ true
    full true b q = q
    full false b q = false_is_not q

    vacant : (a b : Bool) → cond a (not b) false ≡ true → b ≡ false
    vacant true true q = false_is_not q
    vacant true false q = refl
    vacant false b q = false_is_not q

    by : (m : ℕ) → (let x : Access = record { kind = kind_of m; offset = o; enables = e; value = v } in
        cond (fills_byte k x) (not (bit marks k)) (takes_byte k x && bit marks k) ≡ true) → bit marks k ≡ is_read_kind m
    by zero q = full (takes_byte k (record { kind = kind_of 0; offset = o; enables = e; value = v })) (bit marks k) q
    by (suc zero) q = vacant (fills_byte k (record { kind = kind_of 1; offset = o; enables = e; value = v })) (bit marks k) q
    by (suc (suc zero)) q = full (takes_byte k (record { kind = kind_of 2; offset = o; enables = e; value = v })) (bit marks k) q
    by (suc (suc (suc zero))) q = vacant (fills_byte k (record { kind = kind_of 3; offset = o; enables = e; value = v })) (bit marks k) q
    by (suc (suc (suc (suc zero)))) q = false_is_not q
    by (suc (suc (suc (suc (suc zero))))) q = false_is_not q
    by (suc (suc (suc (suc (suc (suc zero)))))) q = false_is_not q
    by (suc (suc (suc (suc (suc (suc (suc m))))))) q = false_is_not q

-- a set bit of a word that is there only on a condition
there : (b : Bool) (word k : ℕ) → bit (cond b word 0) k ≡ true → bit word k ≡ true
there true word k h = h
there false word k h = absurd (false≢true (sym (bit_zero k) ∙ h))

turned_to : (r a : Bool) → cond a (not r) r ≡ true → a ≡ not r
turned_to true true e = sym e
turned_to true false e = refl
turned_to false true e = refl
turned_to false false e = e

pub changed_way : ChangedWay
changed_way k h st start memory s e =
    let o = step_of st start memory s in
    let was = way s.kind k s.offset s.enables s.value st.marks (there (eqb (code_of st start (length memory) (access_of s)) 0 && is_access_kind s.kind) _ k (sym (ap (λ w. bit w k) (changed_is st start memory s)) ∙ e)) in
    let differ = there (eqb o.answer.code 0 && (is_access_kind s.kind && ltb s.offset 0x20)) (bit_xor st.marks o.state.marks) k (sym (ap (λ w. bit w k) (changed_rule st start memory s)) ∙ e) in
    (was, turned_to (is_read_kind s.kind) (bit o.state.marks k) (rw was at (sym (bit_xor_lem st.marks o.state.marks k) ∙ differ)))

-- ---- one message, one event

-- a byte that was told of stays as it is until something takes it back; `full` says whether reads are told
not_taken : (d c w r full b : Bool) → (d && (c || cond full w r)) ≡ false → b ≡ not full → touched (cond d (cond c clear (cond w write (cond r read none))) none) b ≡ not full
not_taken false c w r full b e f = f
not_taken true true w r full b e f = absurd (true≢false e)
not_taken true false true r true b e f = absurd (true≢false e)
not_taken true false false true true b e f = refl
not_taken true false false false true b e f = f
not_taken true false w true false b e f = absurd (true≢false e)
not_taken true false true false false b e f = refl
not_taken true false false false false b e f = f

module _ (side : Side) (k : ℕ) (h : k < 32) where
  abbrev kind : ℕ
  kind = telling_kind side (ltb k 16)

  abbrev full : Bool
  full = is_read_kind kind

  abbrev telling : Event → Bool
  telling e = tells side (ltb k 16) k e

  -- before and after an answer that tells of it
  told : (st : State) (start : ℕ) (memory : List ℕ) (s : Step)
      → (let o = step_of st start memory s in telling (record { step = s; answer = o.answer }) ≡ true → (bit st.marks k ≡ full) × (bit o.state.marks k ≡ not full))
  told st start memory s e =
      let same = ap is_read_kind (eqb-true s.kind kind (and_left (eqb s.kind kind) _ e)) in
      let w = changed_way k h st start memory s (and_right (eqb s.kind kind) _ e) in
      (w.0 ∙ same, w.1 ∙ ap not same)

  stays : (e : Event) (b : Bool) → takes_back side k e ≡ false → b ≡ not full → touched (touch k e) b ≡ not full
  stays e b q m = not_taken (is_done e) (clears_bytes e) (owner_writes k e) (other_reads k e) full b q m

  both : (b : Bool) → b ≡ not b → ⊥
  both true e = true≢false e
  both false e = false≢true e

  second : (between : List Event) (st : State) (start : ℕ) (memory : List ℕ) (steps : List Step) (after : List Event) (f : Event)
      → bit st.marks k ≡ not full → (run st start memory steps).events ≡ between ++ f ∷ after → telling f ≡ true → any_of (map (takes_back side k) between) ≡ true
  second [] st start memory [] after f m e t = absurd (nil≢cons e)
  second [] st start memory (s ∷ ss) after f m e t =
      let same = head-eq_of_cons-eq e in absurd (both full (sym (told st start memory s (ap telling same ∙ t)).0 ∙ m))
  second (g ∷ bs) st start memory [] after f m e t = absurd (nil≢cons e)
  second (g ∷ bs) st start memory (s ∷ ss) after f m e t =
      let o = step_of st start memory s in
      let same : record { step = s; answer = o.answer } ≡ g = head-eq_of_cons-eq e in
      either (takes_back side k g) (any_of (map (takes_back side k) bs))
      (λ q. second bs o.state start o.memory ss after f (mark_event k h st start memory s ∙ stays (record { step = s; answer = o.answer }) (bit st.marks k) (ap (takes_back side k) same ∙ q) m) (tail-eq_of_cons-eq e) t)
    where
      either : (a b : Bool) → (a ≡ false → b ≡ true) → (a || b) ≡ true
      either true b f = refl
      either false b f = f refl

  one_from : (before : List Event) (st : State) (start : ℕ) (memory : List ℕ) (steps : List Step) (between after : List Event) (e f : Event)
      → (run st start memory steps).events ≡ before ++ e ∷ between ++ f ∷ after → telling e ≡ true → telling f ≡ true → any_of (map (takes_back side k) between) ≡ true
  one_from [] st start memory [] between after e f q a b = absurd (nil≢cons q)
  one_from [] st start memory (s ∷ ss) between after e f q a b =
      let same = head-eq_of_cons-eq q in
      second between (step_of st start memory s).state start (step_of st start memory s).memory ss after f (told st start memory s (ap telling same ∙ a)).1 (tail-eq_of_cons-eq q) b
  one_from (g ∷ gs) st start memory [] between after e f q a b = absurd (nil≢cons q)
  one_from (g ∷ gs) st start memory (s ∷ ss) between after e f q a b =
      one_from gs (step_of st start memory s).state start (step_of st start memory s).memory ss between after e f (tail-eq_of_cons-eq q) a b

pub one_message : OneMessage
one_message side k h st start memory steps before between after e f q a b = one_from side k h before st start memory steps between after e f q a b

-- ---- what a driver counts

-- the chosen byte's mark, by an access of the kind that tells
told_change : (side : Side) (outgoing : Bool) (i o e v marks : ℕ)
    → (let kind = telling_kind side outgoing in let k = chosen_of outgoing i in
    bit (changes (record { kind = kind_of kind; offset = o; enables = e; value = v }) marks) k
    ≡ (eqb o (k / 4 * 4) && bit e (k % 4) && cond (is_read_kind kind) (bit marks k) (not (bit marks k))))
told_change pci true i o e v marks = change-read card o e v marks (chosen_of true i) (chosen_lt true i) ∙ rw (chosen_half true i)
told_change pci false i o e v marks = change-write card o e v marks (chosen_of false i) (chosen_lt false i) ∙ rw (chosen_half false i)
told_change addon true i o e v marks = change-write host o e v marks (chosen_of true i) (chosen_lt true i) ∙ rw (chosen_half true i)
told_change addon false i o e v marks = change-read host o e v marks (chosen_of false i) (chosen_lt false i) ∙ rw (chosen_half false i)

access_kind : (side : Side) (outgoing : Bool) → is_access_kind (telling_kind side outgoing) ≡ true
access_kind pci true = refl
access_kind pci false = refl
access_kind addon true = refl
access_kind addon false = refl

-- a flag that nothing lowers
not_lowered : (d r w p q b raises : Bool) → not (d && (r || w)) ≡ true → (b && not (d && (r || w && p && q)) || raises) ≡ (b || raises)
not_lowered false r w p q b raises e = rw (and-true b)
not_lowered true true w p q b raises e = absurd (false≢true e)
not_lowered true false true p q b raises e = absurd (false≢true e)
not_lowered true false false p q b raises e = rw (and-true b)

-- a step that neither resets nor writes the register
module _ (side : Side) (st : State) (start : ℕ) (memory : List ℕ) (s : Step) where
  abbrev then : Outcome
  then = step_of st start memory s

  abbrev number : ℕ
  number = code_of st start (length memory) (access_of s)

  abbrev i : ℕ
  i = interrupts side st

  abbrev event : Event
  event = record { step = s; answer = then.answer }

  -- what raises a flag is what the answer tells
  tells_is : (outgoing : Bool) → (is_done event && is_mail_event side outgoing i st.marks event) ≡ (bit i (enable_of outgoing) && tells side outgoing (chosen_of outgoing i) event)
  unfolding step_of respond answered
  tells_is outgoing =
      by (eqb number 0) (eqb s.kind (telling_kind side outgoing)) refl refl
      ∙ ap (λ (w : ℕ). bit i (enable_of outgoing) && (eqb s.kind (telling_kind side outgoing) && bit w k)) (sym (changed_is st start memory s))
    where
      k : ℕ
      k = chosen_of outgoing i

      same : Bool
      same = eqb s.offset (k / 4 * 4) && bit s.enables (k % 4) && cond (is_read_kind (telling_kind side outgoing)) (bit st.marks k) (not (bit st.marks k))

      by : (d c : Bool) → eqb number 0 ≡ d → eqb s.kind (telling_kind side outgoing) ≡ c
          → (d && (c && (bit i (enable_of outgoing) && same))) ≡ (bit i (enable_of outgoing) && (c && bit (cond (d && is_access_kind s.kind) (changes (access_of s) st.marks) 0) k))
      by true true e f =
          rw (eqb-true s.kind (telling_kind side outgoing) f, access_kind side outgoing, told_change side outgoing i s.offset s.enables s.value st.marks)
      by true false e f = sym (and-false (bit i (enable_of outgoing)))
      by false true e f = sym (rw (bit_zero k) (and-false (bit i (enable_of outgoing))))
      by false false e f = sym (and-false (bit i (enable_of outgoing)))

  module _ (l : leaves_interrupts side event ≡ true) where
    flag-step : (outgoing : Bool) → bit (interrupts side then.state) (flag_of outgoing) ≡ (bit i (flag_of outgoing) || bit i (enable_of outgoing) && tells side outgoing (chosen_of outgoing i) event)
    flag-step outgoing =
        ((event_rule st start memory s).0 side).mail outgoing
        ∙ not_lowered (is_done event) (is_kind 6 event) (is_at (own_kind side) 0x38 event) (bit s.enables 2) (bit s.value (flag_of outgoing)) (bit i (flag_of outgoing)) _ l
        ∙ ap (λ (b : Bool). bit i (flag_of outgoing) || b) (tells_is outgoing)

    -- what a half chooses and enables is in the lowest sixteen bits, which it leaves
    free : (d r w : Bool) → not (d && (r || w)) ≡ true → d ≡ true → (r ≡ false) × (w ≡ false)
    free true true w e f = absurd (false≢true e)
    free true false true e f = absurd (false≢true e)
    free true false false e f = (refl, refl)
    free false r w e f = absurd (false≢true f)

    high-abort : (of : Side) → 16 ≤ abort_bit of
    high-abort pci = omega arith
    high-abort addon = omega arith

    low_bit : (j : ℕ) → j < 16 → bit (interrupts side then.state) j ≡ bit i j
    unfolding step_of respond answered
    low_bit j h = by (eqb number 0) refl
      where
        written : (of : Side) → number ≡ 0 → eqb s.kind 6 ≡ false → (eqb s.kind (own_kind of) && eqb s.offset 0x38) ≡ false
            → bit (interrupts of then.state) j ≡ bit (interrupts of st) j
        written pci e r w = (register_rule st start memory s e r).intcsr j h ∙ rw w
        written addon e r w = (register_rule st start memory s e r).aint j h ∙ rw w

        by : (d : Bool) → eqb number 0 ≡ d → bit (interrupts side then.state) j ≡ bit i j
        by true e = let f = free (eqb number 0) (eqb s.kind 6) _ l e in written side (eqb-true number 0 e) f.0 f.1
        by false e =
            let high = high-abort side in
            ap (λ (w : ℕ). bit w j) (refused-interrupts st start memory s side e)
            ∙ bit_raised i (eqb number 13) (abort_bit side) j ∙ simp (ne_eqb j (abort_bit side) (λ q. omega arith), and-false, or-false)

    low_step : interrupts side then.state % 2 ^ 16 ≡ i % 2 ^ 16
    low_step = by_bits _ _ (λ j. bit_low 16 (interrupts side then.state) j ∙ at j (ltb j 16) refl ∙ sym (bit_low 16 i j))
      where
        at : (j : ℕ) (b : Bool) → ltb j 16 ≡ b → (b && bit (interrupts side then.state) j) ≡ (b && bit i j)
        at j true e = low_bit j (ltb-true j 16 e)
        at j false e = refl

low_kept : (side : Side) (start : ℕ) (steps : List Step) (st : State) (memory : List ℕ)
    → (let r = run st start memory steps in Every (λ (g : Event). leaves_interrupts side g ≡ true) r.events → interrupts side r.state % 2 ^ 16 ≡ interrupts side st % 2 ^ 16)
low_kept side start [] st memory h = refl
low_kept side start (s ∷ ss) st memory h =
    low_kept side start ss (step_of st start memory s).state (step_of st start memory s).memory h.1 ∙ low_step side st start memory s h.0

same_choice : (outgoing : Bool) (i j : ℕ) → i % 2 ^ 16 ≡ j % 2 ^ 16 → chosen_of outgoing i ≡ chosen_of outgoing j
same_choice true i j e = omega arith
same_choice false i j e = omega arith

same_enable : (outgoing : Bool) (i j : ℕ) → i % 2 ^ 16 ≡ j % 2 ^ 16 → bit i (enable_of outgoing) ≡ bit j (enable_of outgoing)
same_enable true i j e = sym (bit_low 16 i 4) ∙ ap (λ w. bit w 4) e ∙ bit_low 16 j 4
same_enable false i j e = sym (bit_low 16 i 12) ∙ ap (λ w. bit w 12) e ∙ bit_low 16 j 12

pub driver_counts : DriverCounts
driver_counts side outgoing st start memory steps s h l =
    let r = run st start memory steps in
    let e = low_kept side start steps st memory h in
    flag-step side r.state start r.memory s l outgoing
    ∙ rw (same_enable outgoing (interrupts side r.state) (interrupts side st) e, same_choice outgoing (interrupts side r.state) (interrupts side st) e)
