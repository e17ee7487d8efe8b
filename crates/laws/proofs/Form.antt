-- A step leaves a state in form in form.
use Prim.Native.Nat.{ℕ, zero, suc, ◌*◌, ◌/◌, ◌%◌, ◌^◌, ◌≤◌, ◌<◌}
use mathlib.Core.Path.{◌≡◌, refl, ap}
use mathlib.Core.Bool.{Bool, true, false, cond, not, ◌&&◌}
use mathlib.Core.List.{List, [], ◌∷◌}
use native.Mathlib.Omega.{arith}
use lib.Dec.{eqb, ltb, eqb-suc-zero}
use lib.Bits.{bit_and, and_high, and_le_r}
use lib.ListN.{length, drop, length-append, length-drop}
use borrow.Author.Tests.{ltb-false, le-ltb, eqb-true, eq-eqb, not-false}
use Rattle.machine.specs.Words.{any_of, only, raised, cleared, merged, written}
use Rattle.machine.specs.Sides.{Side, pci, addon, same_side, side_of, host, party_of, same_party}
use Rattle.machine.specs.State.{State, Lane, lane, held, with_right, reset_state}
use Rattle.machine.specs.Access.{Access, access_of, Kind, reading, writing, cycle, chip_reset, unknown, is_reset, cycles, writes}
use Rattle.machine.specs.Offsets.{fifo_port, address_at, count_at, interrupts_at, control_at}
use Rattle.machine.specs.Commands.{clears_fifo}
use Rattle.machine.specs.Fifos.{handed_out, fifo_after, cycle_feeds, followed}
use Rattle.machine.specs.Mailboxes.{changes}
use Rattle.machine.specs.Mcsr.{mcsr_kept, mcsr_after}
use Rattle.machine.specs.Cycles.{address_kept, count_kept, next_address, count_left, runs_out, address_after, count_after, lane_after}
use Rattle.machine.specs.Interrupts.{interrupts, interrupts_kept, flags, interrupts_held, interrupts_written, outgoing_event, incoming_event, notified, count_bit, interrupts_after, interrupts_aborted}
use Rattle.machine.specs.Rights.{ended, settled_lane, settled}
use Rattle.machine.specs.Code.{code_of, tests, faults, lane_faults, is_out_of_form, is_full_or_empty, is_not_ready}
use Rattle.machine.specs.Step.{moved_state, done_state, aborted_state, state_after, step_of, respond, reply_of}
use Rattle.machine.specs.declared.Step.{Step}
use Rattle.laws.proofs.Tests.{none_applies, any_none}
use Rattle.laws.proofs.Done.{room_to_write, room_to_read}
use Rattle.laws.proofs.Bits.{Only, only_or, only_and, only_and_left, only_raised, is_only, only_is}

-- ---- FIFOs: no fill above 8

fits : (cut c w : Bool) (out ws : List ℕ) (v u : ℕ) → length ws ≤ 8 → (c ≡ true → length ws < 8) → (w ≡ true → length ws < 8)
    → length (cond cut [] (followed (drop (length out) ws) (cond c (v ∷ []) (cond w (u ∷ []) [])))) ≤ 8
fits true c w out ws v u h f g = omega arith
fits false true w out ws v u h f g = let l = f refl in simp (length-append, length-drop) (omega arith)
fits false false true out ws v u h f g = let l = g refl in simp (length-append, length-drop) (omega arith)
fits false false false out ws v u h f g = simp length-drop (omega arith)

fifo_form : (side : Side) (st : State) (x : Access) (word : ℕ) → is_full_or_empty st x ≡ false → is_not_ready st x ≡ false → ltb 8 (length (held side st)) ≡ false
    → ltb 8 (length (fifo_after side x word (held side st))) ≡ false
fifo_form side st x word e f h =
    le-ltb 8 _
    (fits (clears_fifo side x) (cycle_feeds side x) (writes (party_of side) fifo_port x) (handed_out side x word) (held side st) word x.value (ltb-false 8 _ h)
    (room_to_read side st x f) (room_to_write side st x e))

-- ---- addresses are multiples of 4, counts at most 03FFFFFF

address_written : (old new e : ℕ) → written address_kept old new e % 4 ≡ 0
unfolding written
address_written old new e =
    let m = merged old new e in
    let h : bit_and m address_kept ≡ (m / 2 ^ 2 % 2 ^ 30) * 2 ^ 2 = and_high m 30 2 in
    omega arith

count_written : (old new e : ℕ) → written count_kept old new e ≤ 0x03FF_FFFF
unfolding written
count_written old new e = and_le_r (merged old new e) count_kept

address_form : (w c : Bool) (old new e : ℕ) → not (eqb (old % 4) 0) ≡ false
    → not (eqb (cond w (written address_kept old new e) (cond c (next_address old) old) % 4) 0) ≡ false
address_form true c old new e h = ap not (eq-eqb (written address_kept old new e % 4) 0 (address_written old new e))
address_form false true old new e h = let z = eqb-true (old % 4) 0 (not-false _ h) in ap not (eq-eqb (next_address old % 4) 0 (omega arith))
address_form false false old new e h = h

count_form : (w c : Bool) (old new e : ℕ) → ltb 0x03FF_FFFF old ≡ false
    → ltb 0x03FF_FFFF (cond w (written count_kept old new e) (cond c (count_left old) old)) ≡ false
count_form true c old new e h = le-ltb 0x03FF_FFFF _ (count_written old new e)
count_form false true old new e h = let z = ltb-false 0x03FF_FFFF old h in le-ltb 0x03FF_FFFF (count_left old) (omega arith)
count_form false false old new e h = h

-- no right is left together with an end of it
right_form : (right end : Bool) → (right && not end && end) ≡ false
right_form true true = refl
right_form true false = refl
right_form false true = refl
right_form false false = refl

lane_form : (side : Side) (st : State) (x : Access) (word m i : ℕ) → is_full_or_empty st x ≡ false → is_not_ready st x ≡ false
    → any_of (lane_faults side (lane side st) st.mcsr st.intcsr) ≡ false
    → (let l = lane_after side x st.mcsr word (lane side st) in any_of (lane_faults side (settled_lane side l m i) m i)) ≡ false
unfolding address_after count_after
lane_form side st x word m n e f h =
    let was = any_none (lane_faults side (lane side st) st.mcsr st.intcsr) h in
    let l = lane side st in
    let next = lane_after side x st.mcsr word l in
    λ i.
    any_of
    (fifo_form side st x word e f (was 0) i
    ∷ address_form (writes host (address_at side) x) (cycles side x.kind) l.address x.value x.enables (was 1) i
    ∷ count_form (writes host (count_at side) x) (cycles side x.kind) l.count x.value x.enables (was 2) i
    ∷ right_form next.right (ended side next m n) i
    ∷ [])

aborted_lane : (side : Side) (l : Lane) (m i n : ℕ) → any_of (lane_faults side l m i) ≡ false → any_of (lane_faults side (with_right false l) m n) ≡ false
aborted_lane side l m j n h =
    let was = any_none (lane_faults side l m j) h in
    λ i. any_of (was 0 i ∷ was 1 i ∷ was 2 i ∷ false ∷ [])

-- ---- INTCSR and MCSR hold no other bit

interrupts_written_lem : (side : Side) (old new e : ℕ) → Only (interrupts_held side) (interrupts_written side old new e)
unfolding interrupts_written written cleared
interrupts_written_lem pci old new e =
    only_or (interrupts_held pci) _ _ (only_and (interrupts_held pci) (merged old new e) (interrupts_kept pci) refl)
    (only_and_left (interrupts_held pci) (bit_and old (flags pci)) _ (only_and (interrupts_held pci) old (flags pci) refl))
interrupts_written_lem addon old new e =
    only_or (interrupts_held addon) _ _ (only_and (interrupts_held addon) (merged old new e) (interrupts_kept addon) refl)
    (only_and_left (interrupts_held addon) (bit_and old (flags addon)) _ (only_and (interrupts_held addon) old (flags addon) refl))

if_so : (y : ℕ) (b : Bool) (a c : ℕ) → Only y a → Only y c → Only y (cond b a c)
if_so y true a c p q = p
if_so y false a c p q = q

count_raised : (side of : Side) (i : ℕ) (on : Bool) → Only (interrupts_held side) i → Only (interrupts_held side) (raised i on (count_bit of))
count_raised pci pci i on p = only_raised (interrupts_held pci) i 19 on p refl
count_raised pci addon i on p = only_raised (interrupts_held pci) i 18 on p refl
count_raised addon pci i on p = only_raised (interrupts_held addon) i 19 on p refl
count_raised addon addon i on p = only_raised (interrupts_held addon) i 18 on p refl

notified_only : (side : Side) (i changed : ℕ) → Only (interrupts_held side) i → Only (interrupts_held side) (notified i changed)
unfolding notified
notified_only pci i changed h = only_raised (interrupts_held pci) _ 17 (incoming_event i changed) (only_raised (interrupts_held pci) i 16 (outgoing_event i changed) h refl) refl
notified_only addon i changed h = only_raised (interrupts_held addon) _ 17 (incoming_event i changed) (only_raised (interrupts_held addon) i 16 (outgoing_event i changed) h refl) refl

interrupts_only : (side : Side) (k : Kind) (st : State) (x : Access) → Only (interrupts_held side) (interrupts side st) → Only (interrupts_held side) (interrupts_after side k st x)
unfolding interrupts_after
interrupts_only side (reading by) st x h = if_so (interrupts_held side) (same_side side (side_of by)) _ _ h (notified_only side (interrupts side st) (changes x st.marks) h)
interrupts_only side (writing by) st x h =
    if_so (interrupts_held side) (same_side side (side_of by)) _ _
    (if_so (interrupts_held side) (same_party (party_of side) by && eqb x.offset interrupts_at) _ _ (interrupts_written_lem side (interrupts side st) x.value x.enables) h)
    (notified_only side (interrupts side st) (changes x st.marks) h)
interrupts_only side (cycle of) st x h = count_raised side of (interrupts side st) (runs_out (lane of st).count) h
interrupts_only side chip_reset st x h = h
interrupts_only side unknown st x h = h

mcsr_only : (st : State) (x : Access) → Only mcsr_kept st.mcsr → Only mcsr_kept (mcsr_after x st.mcsr)
unfolding mcsr_after written
mcsr_only st x h = if_so mcsr_kept (writes host control_at x) _ st.mcsr (only_and mcsr_kept (merged st.mcsr x.value x.enables) mcsr_kept refl) h

held_form : (y p q : ℕ) → not (only y p) ≡ false → (Only y p → Only y q) → not (only y q) ≡ false
held_form y p q h f = ap not (only_is y q (f (is_only y p (not-false (only y p) h))))

-- ---- a step

done_form : (st : State) (start words : ℕ) (x : Access) (word : ℕ) → code_of st start words x ≡ 0 → is_out_of_form (done_state st x word) ≡ false
unfolding code_of moved_state settled done_state is_out_of_form
done_form st start words x word e =
    let none = none_applies (tests st start words x) refl e in
    let was = any_none (faults st) (none 1) in
    λ i.
    any_of
    (lane_form pci st x word (mcsr_after x st.mcsr) (interrupts_after pci x.kind st x) (none 8) (none 12) (was 0) i
    ∷ lane_form addon st x word (mcsr_after x st.mcsr) (interrupts_after pci x.kind st x) (none 8) (none 12) (was 1) i
    ∷ held_form (interrupts_held pci) st.intcsr (interrupts_after pci x.kind st x) (was 2) (interrupts_only pci x.kind st x) i
    ∷ held_form mcsr_kept st.mcsr (mcsr_after x st.mcsr) (was 3) (mcsr_only st x) i
    ∷ held_form (interrupts_held addon) st.aint (interrupts_after addon x.kind st x) (was 4) (interrupts_only addon x.kind st x) i
    ∷ [])

pub reset_form : is_out_of_form reset_state ≡ false
unfolding is_out_of_form only
reset_form = refl

reset_or : (b : Bool) (s t : State) → is_out_of_form s ≡ false → is_out_of_form t ≡ false → is_out_of_form (cond b s t) ≡ false
reset_or true s t e f = e
reset_or false s t e f = f

aborted_form : (st : State) → is_out_of_form st ≡ false → is_out_of_form (aborted_state st) ≡ false
unfolding is_out_of_form aborted_state interrupts_aborted
aborted_form st e =
    let was = any_none (faults st) e in
    λ i.
    any_of
    (aborted_lane pci st.from_pci st.mcsr st.intcsr (raised st.intcsr true 20) (was 0) i
    ∷ aborted_lane addon st.from_addon st.mcsr st.intcsr (raised st.intcsr true 20) (was 1) i
    ∷ held_form (interrupts_held pci) st.intcsr (raised st.intcsr true 20) (was 2) (λ h. only_raised (interrupts_held pci) st.intcsr 20 true h refl) i
    ∷ was 3 i
    ∷ held_form (interrupts_held addon) st.aint (raised st.aint true 21) (was 4) (λ h. only_raised (interrupts_held addon) st.aint 21 true h refl) i
    ∷ [])

after_form : (st : State) (start words : ℕ) (x : Access) (code word : ℕ) → code_of st start words x ≡ code → is_out_of_form st ≡ false
    → is_out_of_form (state_after st x code word) ≡ false
unfolding state_after
after_form st start words x zero word c e = reset_or (is_reset x.kind) reset_state (done_state st x word) reset_form (done_form st start words x word c)
after_form st start words x (suc n) word c e = rw (eqb-suc-zero n) (reset_or (eqb (suc n) 13) (aborted_state st) st (aborted_form st e) e)

pub form_kept : (st : State) (start : ℕ) (memory : List ℕ) (s : Step) → is_out_of_form st ≡ false → is_out_of_form (step_of st start memory s).state ≡ false
unfolding step_of respond
form_kept st start memory s e =
    let x = access_of s in
    let code = code_of st start (length memory) x in
    after_form st start (length memory) x code (reply_of st start memory x code).value refl e
