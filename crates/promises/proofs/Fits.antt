-- All numbers stay below 2^32, and every answer fits the digits of a log line.
use Prim.Native.Nat.{ℕ, zero, suc, ◌+◌, ◌-◌, ◌*◌, ◌%◌, ◌^◌, ◌≤◌, ◌<◌, min}
use mathlib.Core.Path.{◌≡◌, refl, ap}
use mathlib.Core.Bool.{Bool, true, false, cond, ◌&&◌}
use mathlib.Core.List.{List, [], ◌∷◌, ◌++◌}
use native.Mathlib.Nat.{mod-lt, mod-le, pow-le-pow_right}
use native.Mathlib.Omega.{arith}
use lib.Dec.{eqb}
use lib.Bits.{bit_and, bit_or, bit_xor, or_lt, xor_lt, and_le_l, and_le_r}
use lib.ListN.{length, get_or, set, drop}
use borrow.Author.Tests.{eqb-true}
use Rattle.machine.specs.Words.{ones, flag, mask, raised, cleared, shown, merged, written}
use Rattle.machine.specs.Sides.{Side, pci, addon, same_side, side_of, host, party_of, same_party}
use Rattle.machine.specs.State.{Lane, State, reset_state}
use Rattle.machine.specs.Access.{Access, access_of, Kind, reading, writing, cycle, chip_reset, unknown, is_reset, cycles, writes, is_read_by, is_write_by}
use Rattle.machine.specs.Offsets.{is_mailbox, mailbox, writer, reader, fifo_port, address_at, count_at, status_at, interrupts_at, control_at}
use Rattle.machine.specs.Commands.{clears_marks, clears_fifo}
use Rattle.machine.specs.Mailboxes.{marks_at, fills, takes, changes, marks_after, mail_after}
use Rattle.machine.specs.Fifos.{front, cycle_feeds, let_in, handed_out, followed, fifo_after}
use Rattle.machine.specs.Window.{place_of}
use Rattle.machine.specs.Mcsr.{mcsr_kept, mcsr_after, fifo_status, mcsr_status, mcsr_read, agcsts_read}
use Rattle.machine.specs.Cycles.{address_kept, count_kept, stored, address_after, count_after, lane_after}
use Rattle.machine.specs.Interrupts.{interrupts, interrupts_kept, flags, interrupts_written, notified, interrupts_after, interrupts_aborted, interrupts_read}
use Rattle.machine.specs.Code.{code_of}
use Rattle.machine.specs.Rights.{settled}
use Rattle.machine.specs.Step.{Outcome, control_read, register, not_aframe, answered, moved_state, done_state, aborted_state, state_after, memory_after, reply_of, respond, step_of}
use Rattle.promises.specs.Readings.{is_one_of, is_access_kind, read_then, addresses, values, lowest_enables}
use Rattle.promises.specs.Theorems.{cycle_address}
use Rattle.promises.specs.Fits.{AllBelow, WordsFit, LaneFits, StateFits, answer_codes, AnswerFits, ResetFits, FitKept, RunsFit, to_step, to_no_frame, GivenFits}
use Rattle.machine.specs.declared.Step.{Step}
use Rattle.laws.proofs.Tests.{and_right}
use Rattle.promises.proofs.Bytes.{shown_lt}
use Rattle.laws.proofs.Marks.{marks_lt}
use Rattle.laws.proofs.Status.{status_small}
use Rattle.promises.proofs.Refused.{refused, aborted}
use Rattle.promises.proofs.CodeTable.{each_code}
use Rattle.promises.proofs.Answers.{changed_is, answer_rule}

-- ---- lists

below_cond : {n : ℕ} (b : Bool) {x y : ℕ} → x < n → y < n → cond b x y < n
below_cond true p q = p
below_cond false p q = q

module _ (n : ℕ) where
  -- a number of the list, or zero
  at_lt : (xs : List ℕ) (i : ℕ) → 0 < n → AllBelow n xs → get_or xs i 0 < n
  at_lt [] i z h = z
  at_lt (x ∷ xs) zero z h = h.0
  at_lt (x ∷ xs) (suc i) z h = at_lt xs i z h.1

  set_below : (xs : List ℕ) (i v : ℕ) → v < n → AllBelow n xs → AllBelow n (set xs i v)
  set_below [] i v p h = h
  set_below (x ∷ xs) zero v p h = (p, h.1)
  set_below (x ∷ xs) (suc i) v p h = (h.0, set_below xs i v p h.1)

  drop-below : (k : ℕ) (xs : List ℕ) → AllBelow n xs → AllBelow n (drop k xs)
  drop-below zero xs h = h
  drop-below (suc k) [] h = h
  drop-below (suc k) (x ∷ xs) h = drop-below k xs h.1

  append-below : (xs ys : List ℕ) → AllBelow n xs → AllBelow n ys → AllBelow n (xs ++ ys)
  append-below [] ys h k = k
  append-below (x ∷ xs) ys h k = (h.0, append-below xs ys h.1 k)

  followed-below : (xs ys : List ℕ) → AllBelow n xs → AllBelow n ys → AllBelow n (followed xs ys)
  followed-below xs [] h k = h
  followed-below xs (y ∷ ys) h k = append-below xs (y ∷ ys) h k

  cond_below : (b : Bool) (xs ys : List ℕ) → AllBelow n xs → AllBelow n ys → AllBelow n (cond b xs ys)
  cond_below true xs ys p q = p
  cond_below false xs ys p q = q

-- ---- words

cleared_lt : (x y : ℕ) → cleared x y < 2 ^ 32
unfolding cleared
cleared_lt x y = omega (arith, and_le_r x (ones 0 31 - y))

merged_lt : (old new e : ℕ) → merged old new e < 2 ^ 32
unfolding merged
merged_lt old new e = or_lt 32 _ _ (cleared_lt old (mask e)) (shown_lt new e)

written_lt : (keeps old new e : ℕ) → written keeps old new e < 2 ^ 32
unfolding written
written_lt keeps old new e = omega (arith, and_le_l (merged old new e) keeps, merged_lt old new e)

raised_lt : (x : ℕ) (on : Bool) (k : ℕ) → k < 32 → x < 2 ^ 32 → raised x on k < 2 ^ 32
unfolding raised
raised_lt x true k l h =
    let p : 2 ^ k ≤ 2 ^ 31 = pow-le-pow_right {n = 2} (omega arith) {i = k} {j = 31} (omega arith) in
    or_lt 32 x (2 ^ k) h (omega arith)
raised_lt x false k l h = h

-- ---- what a done step leaves

mail_fits : (x : Access) (mail : List ℕ) → WordsFit mail → WordsFit (mail_after x mail)
unfolding mail_after
mail_fits x mail h = cond_below (2 ^ 32) (fills x) _ mail (set_below (2 ^ 32) mail _ _ (merged_lt _ x.value x.enables) h) h

changes_fit : (x : Access) (marks : ℕ) → changes x marks < 2 ^ 32
unfolding changes
changes_fit x marks = by (fills x) refl (takes x) refl
  where
    part : (m : ℕ) → is_mailbox x.offset ≡ true → bit_and (marks_at x.offset x.enables) m < 2 ^ 32
    part m b = omega (arith, and_le_l (marks_at x.offset x.enables) m, marks_lt x.offset x.enables b)

    by : (f : Bool) → fills x ≡ f → (t : Bool) → takes x ≡ t
        → cond f (bit_and (marks_at x.offset x.enables) (bit_xor (marks_at x.offset x.enables) marks)) (cond t (bit_and (marks_at x.offset x.enables) marks) 0) < 2 ^ 32
    by true e t g = part _ (and_right (is_write_by (writer x.offset) x.kind) (is_mailbox x.offset) e)
    by false e true g = part _ (and_right (is_read_by (reader x.offset) x.kind) (is_mailbox x.offset) g)
    by false e false g = omega arith

marks_fit : (x : Access) (marks : ℕ) → marks < 2 ^ 32 → marks_after x marks < 2 ^ 32
unfolding marks_after
marks_fit x marks h = below_cond (clears_marks x) (omega arith) (xor_lt 32 marks _ h (changes_fit x marks))

fifo_fits : (side : Side) (x : Access) (word : ℕ) (ws : List ℕ) → word < 2 ^ 32 → x.value < 2 ^ 32 → WordsFit ws → WordsFit (fifo_after side x word ws)
fifo_fits side x word ws p q h =
    cond_below (2 ^ 32) (clears_fifo side x) [] _ tt
    (followed-below (2 ^ 32) (drop (length (handed_out side x word)) ws) (let_in side x word) (drop-below (2 ^ 32) (length (handed_out side x word)) ws h)
    (cond_below (2 ^ 32) (cycle_feeds side x) (word ∷ []) _ (p, tt) (cond_below (2 ^ 32) (writes (party_of side) fifo_port x) (x.value ∷ []) [] (q, tt) tt)))

lane_fits : (side : Side) (x : Access) (word : ℕ) (m : ℕ) (l : Lane) → word < 2 ^ 32 → x.value < 2 ^ 32 → LaneFits l → LaneFits (lane_after side x m word l)
unfolding address_after count_after
lane_fits side x word m l p q h =
    record {
      words = fifo_fits side x word l.words p q h.words;
      address = below_cond (writes host (address_at side) x) (written_lt address_kept l.address x.value x.enables) (below_cond (cycles side x.kind) (mod-lt (l.address + 4) (omega arith)) h.address);
      count = below_cond (writes host (count_at side) x) (written_lt count_kept l.count x.value x.enables) (below_cond (cycles side x.kind) (let c = h.count in omega arith) h.count);
    }

notified_fits : (i changed : ℕ) → i < 2 ^ 32 → notified i changed < 2 ^ 32
unfolding notified
notified_fits i changed h = raised_lt _ _ 17 (omega arith) (raised_lt i _ 16 (omega arith) h)

interrupts_fit : (side : Side) (k : Kind) (st : State) (x : Access) → interrupts side st < 2 ^ 32 → interrupts_after side k st x < 2 ^ 32
unfolding interrupts_after interrupts_written
interrupts_fit side (reading by) st x h = below_cond (same_side side (side_of by)) h (notified_fits (interrupts side st) _ h)
interrupts_fit side (writing by) st x h =
    let i = interrupts side st in
    below_cond (same_side side (side_of by))
    (below_cond (same_party (party_of side) by && eqb x.offset interrupts_at)
    (or_lt 32 _ _ (written_lt (interrupts_kept side) i x.value x.enables) (cleared_lt (bit_and i (flags side)) (shown x.value x.enables))) h)
    (notified_fits i _ h)
interrupts_fit side (cycle pci) st x h = raised_lt (interrupts side st) _ 19 (omega arith) h
interrupts_fit side (cycle addon) st x h = raised_lt (interrupts side st) _ 18 (omega arith) h
interrupts_fit side chip_reset st x h = h
interrupts_fit side unknown st x h = h

mcsr_fits : (x : Access) (old : ℕ) → old < 2 ^ 32 → mcsr_after x old < 2 ^ 32
unfolding mcsr_after
mcsr_fits x old h = below_cond (writes host control_at x) (written_lt mcsr_kept old x.value x.enables) h

done_fits : (st : State) (x : Access) (word : ℕ) → word < 2 ^ 32 → x.value < 2 ^ 32 → StateFits st → StateFits (done_state st x word)
unfolding moved_state settled done_state
done_fits st x word p q h =
    record {
      mail = mail_fits x st.mail h.mail;
      marks = marks_fit x st.marks h.marks;
      from_pci = let f = lane_fits pci x word st.mcsr st.from_pci p q h.from_pci in record { words = f.words; address = f.address; count = f.count };
      from_addon = let f = lane_fits addon x word st.mcsr st.from_addon p q h.from_addon in record { words = f.words; address = f.address; count = f.count };
      intcsr = interrupts_fit pci x.kind st x h.intcsr;
      mcsr = mcsr_fits x st.mcsr h.mcsr;
      aint = interrupts_fit addon x.kind st x h.aint;
    }

pub reset_fits : ResetFits
reset_fits =
    let z : 0 < 2 ^ 32 = omega arith in
    record {
      mail = (z, (z, (z, (z, (z, (z, (z, (z, tt))))))));
      marks = z;
      from_pci = record { words = tt; address = z; count = z };
      from_addon = record { words = tt; address = z; count = z };
      intcsr = z;
      mcsr = z;
      aint = z;
    }

aborted_fits : (st : State) → StateFits st → StateFits (aborted_state st)
unfolding aborted_state interrupts_aborted
aborted_fits st h =
    record {
      mail = h.mail;
      marks = h.marks;
      from_pci = record { words = h.from_pci.words; address = h.from_pci.address; count = h.from_pci.count };
      from_addon = record { words = h.from_addon.words; address = h.from_addon.address; count = h.from_addon.count };
      intcsr = raised_lt st.intcsr true 20 (omega arith) h.intcsr;
      mcsr = h.mcsr;
      aint = raised_lt st.aint true 21 (omega arith) h.aint;
    }

either_fits : (b : Bool) (s t : State) → StateFits s → StateFits t → StateFits (cond b s t)
either_fits true s t p q = p
either_fits false s t p q = q

after_fits : (st : State) (x : Access) (code word : ℕ) → word < 2 ^ 32 → x.value < 2 ^ 32 → StateFits st → StateFits (state_after st x code word)
unfolding state_after
after_fits st x code word p q h =
    either_fits (eqb code 0) _ _ (either_fits (is_reset x.kind) reset_state _ reset_fits (done_fits st x word p q h))
    (either_fits (eqb code 13) (aborted_state st) st (aborted_fits st h) h)

memory_fits : (st : State) (start : ℕ) (memory : List ℕ) (x : Access) (code : ℕ) → WordsFit memory → WordsFit (memory_after st start memory x code)
unfolding memory_after stored
memory_fits st start memory x code h =
    cond_below (2 ^ 32) (eqb code 0 && cycles addon x.kind) _ memory (set_below (2 ^ 32) memory _ _ (merged_lt _ (front st.from_addon.words) _) h) h

-- ---- what it answers

-- the status of both FIFOs, and MCSR and AGCSTS, which show it
flag_lt : (on : Bool) (k : ℕ) → 2 ^ k < 2 ^ 32 → flag on k < 2 ^ 32
unfolding flag
flag_lt on k h = below_cond on h (omega arith)

both_lt : (high low : Side) (ws vs : List ℕ) → bit_or (fifo_status high ws * 2 ^ 3) (fifo_status low vs) < 2 ^ 32
both_lt high low ws vs = or_lt 32 (fifo_status high ws * 2 ^ 3) (fifo_status low vs) (omega (arith, status_small high ws)) (omega (arith, status_small low vs))

control_fits : (side : Side) (st : State) → st.mcsr < 2 ^ 32 → control_read side st < 2 ^ 32
unfolding mcsr_read mcsr_status agcsts_read
control_fits pci st h =
    or_lt 32 _ _ h (or_lt 32 _ _ (or_lt 32 _ _ (flag_lt _ 7 (omega arith)) (flag_lt _ 6 (omega arith))) (both_lt addon pci st.from_addon.words st.from_pci.words))
control_fits addon st h = both_lt pci addon st.from_pci.words st.from_addon.words

own_lt : (side : Side) (st : State) → StateFits st → interrupts side st < 2 ^ 32
own_lt pci st h = h.intcsr
own_lt addon st h = h.aint

-- what a register shows of a state that fits
register_fits : (side : Side) (st : State) (offset : ℕ) → StateFits st → register side st offset < 2 ^ 32
unfolding register interrupts_read
register_fits side st offset h =
    below_cond (is_mailbox offset) (at_lt (2 ^ 32) st.mail (mailbox offset) (omega arith) h.mail)
    (below_cond (eqb offset (address_at addon)) h.from_addon.address
    (below_cond (eqb offset (count_at addon)) h.from_addon.count
    (below_cond (eqb offset (address_at pci)) h.from_pci.address
    (below_cond (eqb offset (count_at pci)) h.from_pci.count
    (below_cond (eqb offset status_at) h.marks
    (below_cond (eqb offset interrupts_at) (raised_lt _ _ 23 (omega arith) (own_lt side st h))
    (control_fits side st h.mcsr)))))))

low_lt : (count : ℕ) → 2 ^ min 4 count - 1 < 16
low_lt count = let p : 2 ^ min 4 count ≤ 2 ^ 4 = pow-le-pow_right {n = 2} (omega arith) {i = min 4 count} {j = 4} (omega arith) in omega arith

low_bytes_lt : (x n : ℕ) → x < 2 ^ 32 → x % n < 2 ^ 32
low_bytes_lt x n h = omega (arith, mod-le x n)

module _ (st : State) (start : ℕ) (memory : List ℕ) (s : Step) (h : StateFits st) (m : WordsFit memory) where
  abbrev o : Outcome
  o = step_of st start memory s

  z : 0 < 2 ^ 32
  z = omega arith

  front-lt : (ws : List ℕ) → WordsFit ws → front ws < 2 ^ 32
  front-lt ws k = at_lt (2 ^ 32) ws 0 z k

  read-lt : (side : Side) (ws : List ℕ) → WordsFit ws → read_then side st s ws < 2 ^ 32
  read-lt side ws k = below_cond (eqb s.offset 0x20) (front-lt ws k) (register_fits side st s.offset h)

  values-fit : WordsFit (values st start memory s)
  values-fit = (
    read-lt pci st.from_addon.words h.from_addon.words,
    (
      z,
      (
        read-lt addon st.from_pci.words h.from_pci.words,
        (
          z,
          (
            front-lt st.from_addon.words h.from_addon.words,
            (low_bytes_lt (get_or memory (place_of start st.from_pci.address) 0) _ (at_lt (2 ^ 32) memory _ z m), (z, tt)),
          ),
        ),
      ),
    ),
  )

  changed-lt : o.answer.changed < 2 ^ 32
  changed-lt = rw (changed_is st start memory s) (below_cond (eqb (code_of st start (length memory) (access_of s)) 0 && is_access_kind s.kind) (changes_fit (access_of s) st.marks) z)

  by_code : (done absent : Bool) → eqb o.answer.code 0 ≡ done → eqb o.answer.code 13 ≡ absent → AnswerFits o.answer
  by_code true absent p q =
      let r = answer_rule st start memory s (eqb-true o.answer.code 0 p) in
      record {
        code = each_code (is_one_of answer_codes) st start memory s refl;
        address = rw r.address (at_lt (2 ^ 32) (addresses st) s.kind z (z, (z, (z, (z, (h.from_addon.address, (h.from_pci.address, (z, tt))))))));
        value = rw r.value (at_lt (2 ^ 32) (values st start memory s) s.kind z values-fit);
        enables = rw r.enables (at_lt 16 (lowest_enables st) s.kind (omega arith) (omega arith, (omega arith, (omega arith, (omega arith, (low_lt st.from_addon.count, (low_lt st.from_pci.count, (omega arith, tt))))))));
        changed = changed-lt;
      }
  by_code false true p q =
      let a = (aborted st start memory s (eqb-true o.answer.code 13 q)).1.1 in
      let where_to : cycle_address st s < 2 ^ 32 = below_cond (eqb s.kind 4) h.from_addon.address (below_cond (eqb s.kind 5) h.from_pci.address z) in
      rw a (record { code = refl; address = where_to; value = z; enables = omega arith; changed = z })
  by_code false false p q =
      let c : is_one_of answer_codes o.answer.code ≡ true = each_code (is_one_of answer_codes) st start memory s refl in
      rw (ap (λ (t : Outcome). t.answer) (refused st start memory s p q)) (record { code = c; address = z; value = z; enables = omega arith; changed = z })

answer_fits : (st : State) (start : ℕ) (memory : List ℕ) (s : Step) → StateFits st → WordsFit memory → AnswerFits (step_of st start memory s).answer
answer_fits st start memory s h m =
    let code = (step_of st start memory s).answer.code in by_code st start memory s h m (eqb code 0) (eqb code 13) refl refl

pub fit_kept : FitKept
unfolding step_of respond answered
fit_kept st start memory s h m v =
    let a = answer_fits st start memory s h m in
    record {
      state = after_fits st (access_of s) (code_of st start (length memory) (access_of s)) (reply_of st start memory (access_of s) (code_of st start (length memory) (access_of s))).value a.value v h;
      memory = memory_fits st start memory (access_of s) (code_of st start (length memory) (access_of s)) m;
      answer = a;
    }

-- ---- runs

pub run_fits : RunsFit
run_fits st start memory [] h m v = record { state = h; memory = m; events = tt }
run_fits st start memory (s ∷ ss) h m v =
    let o = fit_kept st start memory s h m v.0 in
    let r = run_fits (step_of st start memory s).state start (step_of st start memory s).memory ss o.state o.memory v.1 in
    record { state = r.state; memory = r.memory; events = (o.answer, r.events) }

pub given_fits : GivenFits
unfolding not_aframe answered
given_fits _ (to_step st start memory s h m v) = answer_fits st start memory s h m
given_fits _ (to_no_frame st) = record { code = refl; address = omega arith; value = omega arith; enables = omega arith; changed = omega arith }
