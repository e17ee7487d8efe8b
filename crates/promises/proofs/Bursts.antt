-- A burst runs to its end.
--     go_done                        a cycle that has the right, or four, is done
--     one-cycle                      what it leaves
--     runs                           so do as many as there are words, or as there is room
use Prim.Native.Nat.{ℕ, zero, suc, ◌+◌, ◌-◌, ◌*◌, ◌%◌, ◌^◌, ◌<◌, min}
use mathlib.Core.Path.{◌≡◌, refl, sym, ap, subst, ◌∙◌}
use mathlib.Core.Bool.{Bool, true, false, cond, not, ◌&&◌, ◌||◌}
use mathlib.Core.List.{List, ◌∷◌, map}
use native.Mathlib.Omega.{arith}
use lib.Dec.{eqb, leb}
use lib.ListN.{length, replicate, length-set}
use borrow.Author.Tests.{le-leb, ne_eqb}
use Rattle.machine.specs.Words.{bit}
use Rattle.machine.specs.Sides.{Side, pci, addon}
use Rattle.machine.specs.State.{State, lane, held}
use Rattle.machine.specs.Access.{access_of}
use Rattle.machine.specs.Window.{inside, is_window_out_of_form}
use Rattle.machine.specs.Cycles.{is_ready, stored, address_after}
use Rattle.machine.specs.Interrupts.{interrupts_after, abort_in}
use Rattle.machine.specs.Rights.{settled}
use Rattle.machine.specs.Code.{code_of, is_out_of_form, is_unknown_offset, has_bad_enables, is_part_fifo_access, is_read_only_write, is_full_or_empty, is_transfer_off, is_count_zero, is_abort_standing, is_not_ready, is_no_memory}
use Rattle.machine.specs.Step.{Outcome, moved_state, done_state, state_after, memory_after, answered, respond, step_of}
use Rattle.machine.specs.Event.{answers}
use Rattle.machine.specs.Run.{run}
use Rattle.machine.specs.declared.Answer.{Answer}
use Rattle.laws.proofs.Form.{form_kept}
use Rattle.promises.specs.Rights.{asks_four, lets_go, waits_for, Book, cycle_step, further, BurstRuns}
use Rattle.promises.proofs.Rights.{book-respond, no-abort-after}

-- ---- a cycle that may go

ready_by : (right four : Bool) (n : ℕ) → four ≡ true → 0 < n → (right || leb 4 n) ≡ true → leb (cond (four && not right) 4 1) n ≡ true
ready_by true true n f p e = le-leb 1 n (omega arith)
ready_by true false n f p e = le-leb 1 n (omega arith)
ready_by false true n f p e = e
ready_by false false n f p e = le-leb 1 n (omega arith)

-- what lets the cycle of a side go in a state, with n words or room for n
record Goes (side : Side) (st : State) (start words n : ℕ) : Type 0 where
  form : is_out_of_form st ≡ false
  window : is_window_out_of_form start words ≡ false
  on : bit st.mcsr (lets_go side) ≡ true
  four : bit st.mcsr (asks_four side) ≡ true
  quiet : abort_in st.intcsr ≡ false
  waits : waits_for side (length (held side st)) ≡ n
  right : 0 < n → ((lane side st).right || leb 4 n) ≡ true
  count : 4 * n < (lane side st).count + 4
  there : (j : ℕ) → j < n → inside start words (further j (lane side st).address) ≡ true

go_ready : (side : Side) (st : State) (start words m : ℕ) → Goes side st start words (suc m) → is_ready side st ≡ true
unfolding is_ready
go_ready pci st start words m g = rw g.waits (ready_by st.from_pci.right (bit st.mcsr 13) (suc m) g.four (omega arith) (g.right (omega arith)))
go_ready addon st start words m g = rw g.waits (ready_by st.from_addon.right (bit st.mcsr 9) (suc m) g.four (omega arith) (g.right (omega arith)))

go_done : (side : Side) (st : State) (start words m : ℕ) → Goes side st start words (suc m) → code_of st start words (access_of (cycle_step side)) ≡ 0
unfolding code_of is_unknown_offset has_bad_enables is_part_fifo_access is_read_only_write is_full_or_empty is_transfer_off is_count_zero is_abort_standing is_not_ready is_no_memory
go_done pci st start words m g =
    let some = ne_eqb st.from_pci.count 0 (λ e. let h = g.count in omega arith) in
    rw (g.form, g.window, g.on, some, g.quiet, go_ready pci st start words m g, g.there 0 (omega arith))
go_done addon st start words m g =
    let some = ne_eqb st.from_addon.count 0 (λ e. let h = g.count in omega arith) in
    rw (g.form, g.window, g.on, some, g.quiet, go_ready addon st start words m g, g.there 0 (omega arith))

-- ---- what it leaves

stands : (right four on more none out : Bool) → four ≡ true → on ≡ true → (right || more) ≡ true → none ≡ false → out ≡ false
    → ((right || four && more) && not (none || out || not four || not on)) ≡ true
stands right four on more none out f o r n c = rw (f, o, r, n, c)

module _ (st : State) (start : ℕ) (memory : List ℕ) (m : ℕ) where
  abbrev after : Side → Outcome
  after side = respond st start memory (access_of (cycle_step side)) 0

  same : (side : Side) → Goes side st start (length memory) (suc m) → step_of st start memory (cycle_step side) ≡ after side
  unfolding step_of
  same side g = ap (λ (c : ℕ). respond st start memory (access_of (cycle_step side)) c) (go_done side st start (length memory) m g)

  length-kept : (side : Side) → length (after side).memory ≡ length memory
  unfolding respond memory_after stored
  length-kept pci = refl
  length-kept addon = length-set memory _ _

  next_address_lem : (side : Side) → (lane side (after side).state).address ≡ ((lane side st).address + 4) % 2 ^ 32
  unfolding respond state_after moved_state settled done_state address_after
  next_address_lem pci = refl
  next_address_lem addon = refl

  intcsr-after : (side : Side) → (after side).state.intcsr ≡ interrupts_after pci (access_of (cycle_step side)).kind st (access_of (cycle_step side))
  unfolding respond state_after moved_state settled done_state
  intcsr-after pci = refl
  intcsr-after addon = refl

  no_reset : (side : Side) → eqb (cycle_step side).kind 6 ≡ false
  no_reset pci = refl
  no_reset addon = refl

  -- the book after it: one word more or less, the count less, the bits of MCSR as they were, and the right if another cycle may come
  record Turned (side : Side) : Type 0 where
    waits : waits_for side (length (held side (after side).state)) ≡ m
    count : (lane side (after side).state).count ≡ (lane side st).count - min 4 (lane side st).count
    four : bit (after side).state.mcsr (asks_four side) ≡ bit st.mcsr (asks_four side)
    on : bit (after side).state.mcsr (lets_go side) ≡ bit st.mcsr (lets_go side)
    right : 0 < m → (lane side (after side).state).right ≡ true

  turns : (side : Side) → Goes side st start (length memory) (suc m) → Turned side
  unfolding respond answered
  turns pci g =
      let w = length st.from_pci.words in
      let n = st.from_pci.count in
      let book = book-respond pci st start memory (cycle_step pci) 0 (go_done pci st start (length memory) m g) in
      let was = g.waits in
      let enough = g.count in
      let left : 8 - (w - 0 + 1) ≡ m = omega arith in
      record {
        waits = ap (λ (b : Book). 8 - b.words) book ∙ left;
        count = ap (λ (b : Book). b.count) book;
        four = ap (λ (b : Book). b.four) book;
        on = ap (λ (b : Book). b.on) book;
        right = λ p. ap (λ (b : Book). b.right) book ∙ stands st.from_pci.right (bit st.mcsr 13) (bit st.mcsr 14) (leb 4 (8 - w)) _ _ g.four g.on (rw was (g.right (omega arith))) (ne_eqb (8 - (w - 0 + 1)) 0 (λ e. omega arith)) (ne_eqb (n - min 4 n) 0 (λ e. omega arith));
      }
  turns addon g =
      let w = length st.from_addon.words in
      let n = st.from_addon.count in
      let book = book-respond addon st start memory (cycle_step addon) 0 (go_done addon st start (length memory) m g) in
      let was = g.waits in
      let enough = g.count in
      let left : w - 1 + 0 ≡ m = omega arith in
      record {
        waits = ap (λ (b : Book). b.words) book ∙ left;
        count = ap (λ (b : Book). b.count) book;
        four = ap (λ (b : Book). b.four) book;
        on = ap (λ (b : Book). b.on) book;
        right = λ p. ap (λ (b : Book). b.right) book ∙ stands st.from_addon.right (bit st.mcsr 9) (bit st.mcsr 10) (leb 4 w) _ _ g.four g.on (rw was (g.right (omega arith))) (ne_eqb (w - 1 + 0) 0 (λ e. omega arith)) (ne_eqb (n - min 4 n) 0 (λ e. omega arith));
      }

  one-cycle : (side : Side) → Goes side st start (length memory) (suc m) → Goes side (after side).state start (length memory) m
  one-cycle side g =
      let t = turns side g in
      let n = (lane side st).count in
      let enough = g.count in
      let less = t.count in
      record {
        form = rw (same side g) at (form_kept st start memory (cycle_step side) g.form);
        window = g.window;
        on = t.on ∙ g.on;
        four = t.four ∙ g.four;
        quiet = rw (intcsr-after side) (no-abort-after st start memory (cycle_step side) (go_done side st start (length memory) m g) (no_reset side) g.quiet);
        waits = t.waits;
        right = λ p. rw (t.right p);
        count = rw less (omega arith);
        there = λ j p. rw (next_address_lem side) (g.there (suc j) (omega arith));
      }

-- ---- as many

-- what a first outcome and m cycles after it are to show
abbrev Shows : Side → ℕ → ℕ → Outcome → Type 0
Shows side start m o =
    let r = run o.state start o.memory (replicate m (cycle_step side)) in
    (o.answer.code ∷ map (λ (a : Answer). a.code) (answers r.events) ≡ replicate (suc m) 0) × (waits_for side (length (held side r.state)) ≡ 0)

code_done : (side : Side) (st : State) (start : ℕ) (memory : List ℕ) (m : ℕ) → (after st start memory m side).answer.code ≡ 0
unfolding respond answered
code_done side st start memory m = refl

runs : (side : Side) (start : ℕ) (n : ℕ) (st : State) (memory : List ℕ) → Goes side st start (length memory) n
    → (let r = run st start memory (replicate n (cycle_step side)) in
    (map (λ (a : Answer). a.code) (answers r.events) ≡ replicate n 0) × (waits_for side (length (held side r.state)) ≡ 0))
runs side start zero st memory g = (refl, g.waits)
runs side start (suc m) st memory g =
    let o = after st start memory m side in
    let rest = runs side start m o.state o.memory (rw (length-kept st start memory m side) (one-cycle st start memory m side g)) in
    let shows : Shows side start m o = ((λ i. code_done side st start memory m i ∷ rest.0 i), rest.1) in
    subst (Shows side start m) (sym (same st start memory m side g)) shows

pub burst_runs : BurstRuns
burst_runs side st start memory form window on four quiet k count there =
    runs side start (waits_for side (length (held side st))) st memory
    (record { form = form; window = window; on = on; four = four; quiet = quiet; waits = refl; right = λ p. by (lane side st).right (le-leb 4 _ k); count = count; there = there })
  where
    by : {b : Bool} (a : Bool) → b ≡ true → (a || b) ≡ true
    by true e = refl
    by false e = e
