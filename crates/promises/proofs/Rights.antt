-- The right of a burst is what the account says.
--     book_done, book-step           one step: the book of a state turns into that of the state after it
--     book_run                       a run
use Prim.Native.Nat.{ℕ, zero, suc, ◌+◌, ◌-◌, ◌/◌, ◌%◌, ◌^◌, ◌<◌}
use mathlib.Core.Path.{◌≡◌, refl, sym, ap, ◌∙◌}
use mathlib.Core.Bool.{Bool, true, false, cond, not, ◌&&◌, ◌||◌, and-false, and-true, or-false}
use mathlib.Core.List.{List, [], ◌∷◌}
use native.Mathlib.Omega.{arith}
use lib.Dec.{eqb, leb, eqb-suc-zero}
use lib.ListN.{length, drop, length-append, length-drop}
use Rattle.machine.specs.Words.{bit, any_of, written}
use Rattle.machine.specs.Sides.{Side, pci, addon, host}
use Rattle.machine.specs.State.{State, lane, held, reset_state}
use Rattle.machine.specs.Access.{Access, access_of, kind_of, cycles, is_reset, writes}
use Rattle.machine.specs.Offsets.{count_at}
use Rattle.machine.specs.Commands.{clears_fifo}
use Rattle.machine.specs.Fifos.{amount, followed, let_in, handed_out, fifo_after}
use Rattle.machine.specs.Mcsr.{mcsr_kept, enable_bit, four_bit, mcsr_after}
use Rattle.machine.specs.Cycles.{count_kept, count_left, count_after, earns, right_after, lane_after}
use Rattle.machine.specs.Interrupts.{interrupts_after, abort_in}
use Rattle.machine.specs.Rights.{ends, ended, settled}
use Rattle.machine.specs.Code.{code_of, tests, test_of, faults, lane_faults, is_out_of_form, is_abort_standing}
use Rattle.machine.specs.Step.{moved_state, done_state, aborted_state, state_after, answered, respond, step_of}
use Rattle.machine.specs.Event.{Event}
use Rattle.machine.specs.Run.{run}
use Rattle.machine.specs.declared.Step.{Step}
use Rattle.machine.specs.declared.Answer.{Answer}
use Rattle.laws.proofs.Tests.{or_left, or_right, and_left, and_at, cond_part, any_none, any_five, neither, none_applies}
use Rattle.laws.proofs.Bits.{bit_zero}
use Rattle.laws.proofs.KindNumbers.{Named, named}
use Rattle.promises.specs.Account.{written_over, clears}
use Rattle.promises.specs.Rights.{cycle_kind, asks_four, lets_go, waits_for, Book, blank, words_then, bytes_then, mcsr_then, turned, book_after, book_from, RightAccount}
use Rattle.promises.proofs.Numbers.{reset-is, clears-is, in_is, out-is}
use Rattle.promises.proofs.FifoAccount.{held_done}
use Rattle.promises.proofs.Bytes.{bit-written, merged_bytes, written_low}
use Rattle.promises.proofs.Readings.{kept_bits}
use Rattle.promises.proofs.Events.{event_rule}

-- the book that a state stands for
abbrev pub book_of : Side → State → Book
book_of side st = record { words = length (held side st); count = (lane side st).count; four = bit st.mcsr (asks_four side); on = bit st.mcsr (lets_go side); right = (lane side st).right }

pub waits : (side : Side) (ws : List ℕ) → amount side ws ≡ waits_for side (length ws)
waits pci ws = refl
waits addon ws = refl

length_after : (cut : Bool) (ws out new : List ℕ) → length (cond cut [] (followed (drop (length out) ws) new)) ≡ cond cut 0 (length ws - length out + length new)
length_after true ws out new = refl
length_after false ws out [] = simp length-drop (omega arith)
length_after false ws out (n ∷ ns) = simp (length-append, length-drop)

-- ---- a done step that is no reset, by the numbers of its step and answer

module _ (side : Side) (st : State) (s : Step) (a : Answer) (no : eqb s.kind 6 ≡ false) where
  abbrev e : Event
  e = record { step = s; answer = a }

  abbrev x : Access
  x = access_of s

  cleared : clears_fifo side x ≡ clears side e
  cleared = rw (reset-is e ∙ no) at (clears-is e side)

  words-turned : length (fifo_after side x a.value (held side st)) ≡ words_then side e (length (held side st))
  words-turned =
      length_after (clears_fifo side x) (held side st) (handed_out side x a.value) (let_in side x a.value)
      ∙ (λ i. cond (cleared i) 0 (length (held side st) - length (out-is e side i) + length (in_is e side i)))

cycle_is : (side : Side) (k : ℕ) → cycles side (kind_of k) ≡ eqb k (cycle_kind side)
cycle_is pci k = (named k).read_cycle
cycle_is addon k = (named k).write_cycle

pub count_written : (old : ℕ) (e : Event) → written count_kept old e.step.value e.step.enables ≡ written_over old e % 2 ^ 26
count_written old e =
    written_low 26 old e.step.value e.step.enables ∙ ap (λ (w : ℕ). w % 2 ^ 26) (merged_bytes old e.step.value e.step.enables)

count_turned : (side : Side) (e : Event) (old : ℕ) → count_after side (access_of e.step) old ≡ bytes_then side e old
unfolding count_after
count_turned side e old = by side
  where
    s : Step
    s = e.step

    n : Named s.kind
    n = named s.kind

    by : (of : Side) → cond (writes host (count_at of) (access_of s)) (written count_kept old s.value s.enables) (cond (cycles of (kind_of s.kind)) (count_left old) old) ≡ bytes_then of e old
    by pci = λ i. cond (n.pci_write i && eqb s.offset 0x30) (count_written old e i) (cond (n.read_cycle i) (count_left old) old)
    by addon = λ i. cond (n.pci_write i && eqb s.offset 0x28) (count_written old e i) (cond (n.write_cycle i) (count_left old) old)

-- a bit of MCSR that is kept, of byte 1
mcsr_turned : (k : ℕ) → k < 32 → k / 8 ≡ 1 → bit mcsr_kept k ≡ true → (e : Event) (old : ℕ) → bit (mcsr_after (access_of e.step) old) k ≡ mcsr_then k e (bit old k)
unfolding mcsr_after
mcsr_turned k h one kept e old =
    let s = e.step in
    let w = eqb s.kind 1 && eqb s.offset 0x3C in
    cond_part (λ (r : ℕ). bit r k) (writes host 0x3C (access_of s)) (written mcsr_kept old s.value s.enables) old
    ∙ (λ i. cond ((named s.kind).pci_write i && eqb s.offset 0x3C) (bit-written k h mcsr_kept old s.value s.enables i) (bit old k))
    ∙ rw (one, kept) (both w (bit s.enables 1) (bit s.value k) (bit old k))
  where
    both : (w b new old : Bool) → cond w (cond b new old && true) old ≡ cond (w && b) new old
    both true b new old = and-true (cond b new old)
    both false b new old = refl

four_turned : (side : Side) (e : Event) (old : ℕ) → bit (mcsr_after (access_of e.step) old) (asks_four side) ≡ mcsr_then (asks_four side) e (bit old (asks_four side))
four_turned pci e old = mcsr_turned 13 (omega arith) refl (kept_bits 13 (omega arith)).mcsr e old
four_turned addon e old = mcsr_turned 9 (omega arith) refl (kept_bits 9 (omega arith)).mcsr e old

on_turned : (side : Side) (e : Event) (old : ℕ) → bit (mcsr_after (access_of e.step) old) (lets_go side) ≡ mcsr_then (lets_go side) e (bit old (lets_go side))
on_turned pci e old = mcsr_turned 14 (omega arith) refl (kept_bits 14 (omega arith)).mcsr e old
on_turned addon e old = mcsr_turned 10 (omega arith) refl (kept_bits 10 (omega arith)).mcsr e old

no_end_lem : (b c d f : Bool) → not (any_of (b ∷ c ∷ d ∷ f ∷ false ∷ [])) ≡ not (b || c || d || f)
no_end_lem b c d f = ap not (sym (any_five b c d f false) ∙ or-false (b || c || d || f))

-- the right, where no abort stands if it is had or earned
right_turned : (cut right earn : Bool) (b c d f abort : Bool) → ((right || earn) ≡ true → abort ≡ false)
    → (cond cut false (cond earn true right) && not (any_of (b ∷ c ∷ d ∷ f ∷ abort ∷ []))) ≡ ((right || earn) && not (cut || (b || c || d || f)))
right_turned true true earn b c d f abort h = refl
right_turned true false true b c d f abort h = refl
right_turned true false false b c d f abort h = refl
right_turned false true true b c d f abort h = rw (h refl) (no_end_lem b c d f)
right_turned false true false b c d f abort h = rw (h refl) (no_end_lem b c d f)
right_turned false false true b c d f abort h = rw (h refl) (no_end_lem b c d f)
right_turned false false false b c d f abort h = refl

right_done : (side : Side) (st : State) (x : Access) (word : ℕ)
    → (lane side (done_state st x word)).right
    ≡ (right_after side x st.mcsr (lane side st) && not (ended side (lane_after side x st.mcsr word (lane side st)) (mcsr_after x st.mcsr) (interrupts_after pci x.kind st x)))
unfolding moved_state settled done_state
right_done pci st x word = refl
right_done addon st x word = refl

count_done : (side : Side) (st : State) (x : Access) (word : ℕ) → (lane side (done_state st x word)).count ≡ count_after side x (lane side st).count
unfolding moved_state settled done_state
count_done pci st x word = refl
count_done addon st x word = refl

mcsr_done : (st : State) (x : Access) (word : ℕ) → (done_state st x word).mcsr ≡ mcsr_after x st.mcsr
unfolding moved_state settled done_state
mcsr_done st x word = refl

pub four_is : (side : Side) → four_bit side ≡ asks_four side
four_is pci = refl
four_is addon = refl

on_is : (side : Side) → enable_bit side ≡ lets_go side
on_is pci = refl
on_is addon = refl

book_done : (side : Side) (st : State) (s : Step) (a : Answer) → eqb s.kind 6 ≡ false
    → (let x = access_of s in let l = lane side st in
    ((l.right || earns side x st.mcsr l.words) ≡ true → abort_in (interrupts_after pci x.kind st x) ≡ false)
    → book_of side (done_state st x a.value) ≡ turned side (book_of side st) (record { step = s; answer = a }))
unfolding right_after
book_done side st s a other quiet =
    let x = access_of s in
    let l = lane side st in
    let m = mcsr_after x st.mcsr in
    let after = fifo_after side x a.value l.words in
    let words = words-turned side st s a other in
    let e : Event = record { step = s; answer = a } in
    let count = count_turned side e l.count in
    let four = four_turned side e st.mcsr in
    let on = on_turned side e st.mcsr in
    let right : (lane side (done_state st x a.value)).right ≡ (turned side (book_of side st) e).right =
    right_done side st x a.value
    ∙ right_turned (clears_fifo side x) l.right (earns side x st.mcsr l.words) (eqb (amount side after) 0) (eqb (count_after side x l.count) 0) (not (bit m (four_bit side))) (not (bit m (enable_bit side))) (abort_in (interrupts_after pci x.kind st x)) quiet
    ∙ (λ i. (l.right || cycle_is side s.kind i && bit st.mcsr (four_is side i) && leb 4 (waits side l.words i)) && not (cleared side st s a other i || (eqb ((waits side after ∙ ap (waits_for side) words) i) 0 || eqb (count i) 0 || not ((ap (bit m) (four_is side) ∙ four) i) || not ((ap (bit m) (on_is side) ∙ on) i)))) in
    let mcsr = mcsr_done st x a.value in
    λ i. record { words = (ap (λ (ws : List ℕ). length ws) (held_done side st x a.value) ∙ words) i; count = (count_done side st x a.value ∙ count) i; four = (ap (λ (r : ℕ). bit r (asks_four side)) mcsr ∙ four) i; on = (ap (λ (r : ℕ). bit r (lets_go side)) mcsr ∙ on) i; right = right i }

-- ---- no abort stands where a cycle is done, nor with a right in form; and no done step sets one

no_abort_before : (side : Side) (st : State) (start words : ℕ) (x : Access) → code_of st start words x ≡ 0
    → (let l = lane side st in (l.right || earns side x st.mcsr l.words) ≡ true → abort_in st.intcsr ≡ false)
unfolding code_of is_out_of_form is_abort_standing
no_abort_before side st start words x e h = by (lane side st).right refl
  where
    none : (c : ℕ) → test_of c (tests st start words x) ≡ false
    none = none_applies (tests st start words x) refl e

    lane-faults : (side : Side) → any_of (lane_faults side (lane side st) st.mcsr st.intcsr) ≡ false
    lane-faults pci = any_none (faults st) (none 1) 0
    lane-faults addon = any_none (faults st) (none 1) 1

    by : (b : Bool) → (lane side st).right ≡ b → abort_in st.intcsr ≡ false
    by true r =
        any_none (ends side (lane side st) st.mcsr st.intcsr)
        (and_at (lane side st).right _ r (any_none (lane_faults side (lane side st) st.mcsr st.intcsr) (lane-faults side) 3)) 4
    by false r =
        and_at (cycles side x.kind) _ (and_left (cycles side x.kind) _ (and_left _ _ (rw r at h))) (neither (λ of. cycles of x.kind && abort_in st.intcsr) (none 11) side)

module _ (st : State) (start : ℕ) (memory : List ℕ) (s : Step) (e : code_of st start (length memory) (access_of s) ≡ 0) (no : eqb s.kind 6 ≡ false) where
  intcsr-done : (step_of st start memory s).state.intcsr ≡ interrupts_after pci (access_of s).kind st (access_of s)
  unfolding step_of respond state_after moved_state settled done_state
  intcsr-done = rw (e, (named s.kind).reset, no)

  code_done : (step_of st start memory s).answer.code ≡ 0
  unfolding step_of respond answered
  code_done = e

  pub no-abort-after : abort_in st.intcsr ≡ false → abort_in (interrupts_after pci (access_of s).kind st (access_of s)) ≡ false
  no-abort-after h =
      let flags = event_rule st start memory s in
      let master = rw (or_left (bit st.intcsr 20) (bit st.intcsr 21) h, code_done) at (flags.0 pci).abort in
      let target = rw (or_right (bit st.intcsr 20) (bit st.intcsr 21) h) at flags.1 in
      let both : abort_in (step_of st start memory s).state.intcsr ≡ false = λ i. master i || target i in
      rw intcsr-done at both

-- ---- any step

book_reset : (side : Side) → book_of side reset_state ≡ blank
book_reset side = λ i. record { words = held_none side i; count = count_none side i; four = bit_zero (asks_four side) i; on = bit_zero (lets_go side) i; right = right-none side i }
  where
    held_none : (of : Side) → length (held of reset_state) ≡ 0
    held_none pci = refl
    held_none addon = refl

    count_none : (of : Side) → (lane of reset_state).count ≡ 0
    count_none pci = refl
    count_none addon = refl

    right-none : (of : Side) → (lane of reset_state).right ≡ false
    right-none pci = refl
    right-none addon = refl

-- the book of a state with another right
abbrev righted : Side → State → Bool → Book
righted side st right = record { words = length (held side st); count = (lane side st).count; four = bit st.mcsr (asks_four side); on = bit st.mcsr (lets_go side); right = right }

book_aborted : (side : Side) (st : State) → book_of side (aborted_state st) ≡ righted side st false
unfolding aborted_state
book_aborted pci st = refl
book_aborted addon st = refl

module _ (side : Side) (st : State) (start : ℕ) (memory : List ℕ) (s : Step) where
  pub book-respond : (code : ℕ) → code_of st start (length memory) (access_of s) ≡ code
      → (let o = respond st start memory (access_of s) code in book_of side o.state ≡ book_after side (book_of side st) (record { step = s; answer = o.answer }))
  unfolding respond answered state_after
  book-respond zero e = by (respond st start memory (access_of s) 0).answer (eqb s.kind 6) refl
    where
      by : (a : Answer) (b : Bool) → eqb s.kind 6 ≡ b
          → book_of side (cond (is_reset (kind_of s.kind)) reset_state (done_state st (access_of s) a.value)) ≡ cond b blank (turned side (book_of side st) (record { step = s; answer = a }))
      by a true r = rw ((named s.kind).reset ∙ r) (book_reset side)
      by a false r = rw ((named s.kind).reset ∙ r) (book_done side st s a r (λ h. no-abort-after st start memory s e r (no_abort_before side st start (length memory) (access_of s) e h)))
  book-respond (suc n) e = rw (eqb-suc-zero n) (by (eqb (suc n) 13))
    where
      by : (b : Bool) → book_of side (cond b (aborted_state st) st) ≡ righted side st ((lane side st).right && not b)
      by true = book_aborted side st ∙ ap (righted side st) (sym (and-false (lane side st).right))
      by false = ap (righted side st) (sym (and-true (lane side st).right))

book_run : (side : Side) (start : ℕ) (steps : List Step) (st : State) (memory : List ℕ)
    → (let r = run st start memory steps in book_of side r.state ≡ book_from side (book_of side st) r.events)
unfolding step_of
book_run side start [] st memory = refl
book_run side start (s ∷ ss) st memory =
    let o = step_of st start memory s in
    book_run side start ss o.state o.memory
    ∙ ap (λ (b : Book). book_from side b (run o.state start o.memory ss).events) (book-respond side st start memory s (code_of st start (length memory) (access_of s)) refl)

pub right_account : RightAccount
right_account side start memory steps =
    let r = run reset_state start memory steps in
    ap (λ (b : Book). b.right) (book_run side start steps reset_state memory ∙ ap (λ (b : Book). book_from side b r.events) (book_reset side))
