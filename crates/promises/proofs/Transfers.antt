-- How many cycles a transfer takes: what one step does to a lane's count and address; then a run.
use Prim.Native.Nat.{ℕ, zero, suc, ◌+◌, ◌-◌, ◌*◌, ◌/◌, ◌%◌, ◌^◌, ◌<◌, min}
use mathlib.Core.Path.{◌≡◌, refl, ap, ◌∙◌}
use mathlib.Core.Bool.{Bool, true, false, cond, ◌&&◌, ◌||◌}
use mathlib.Core.List.{List, [], ◌∷◌}
use native.Mathlib.Omega.{arith}
use lib.Dec.{eqb}
use lib.ListN.{length, get_or}
use borrow.Author.Tests.{eqb-true, eqb-false}
use Rattle.machine.specs.Sides.{Side, pci, addon}
use Rattle.machine.specs.State.{State, Lane, lane, with_right}
use Rattle.machine.specs.Step.{Outcome, step_of}
use Rattle.machine.specs.Event.{Event}
use Rattle.machine.specs.Run.{run}
use Rattle.machine.specs.declared.Step.{Step}
use Rattle.promises.specs.Account.{is_done, is_kind, is_at, written_over}
use Rattle.promises.specs.Readings.{address_then, count_then, addresses}
use Rattle.promises.specs.CodeTable.{code_table}
use Rattle.promises.specs.Rights.{cycle_kind, count_offset, further}
use Rattle.promises.specs.Transfers.{address_offset, touches, Untouched, done_cycles, addresses_of, up_from, UpFrom, Transfer, TransferWritten, Left, TransferLeft, TransferAddresses}
use Rattle.laws.proofs.Tests.{or_left, or_right, and_left, and_right, and_at, any_none}
use Rattle.promises.proofs.Refused.{refused, aborted}
use Rattle.promises.proofs.Registers.{register_rule}
use Rattle.promises.proofs.Answers.{answer_rule}
use Rattle.promises.proofs.First.{before, none_before}
use Rattle.promises.proofs.CodeTable.{first}
use Rattle.promises.proofs.Rights.{count_written}

-- ---- one step

module _ (side : Side) (st : State) (start : ℕ) (memory : List ℕ) (s : Step) where
  abbrev o : Outcome
  o = step_of st start memory s

  abbrev e : Event
  e = record { step = s; answer = o.answer }

  abbrev is_cycled : Bool
  is_cycled = is_done e && is_kind (cycle_kind side) e

  -- the registers of the lane after a done step that is no reset
  count_done : is_done e ≡ true → eqb s.kind 6 ≡ false → (lane side o.state).count ≡ count_then (count_offset side) (cycle_kind side) s (lane side st).count
  count_done d other = by side
    where
      by : (of : Side) → (lane of o.state).count ≡ count_then (count_offset of) (cycle_kind of) s (lane of st).count
      by pci = (register_rule st start memory s (eqb-true _ 0 d) other).read_count
      by addon = (register_rule st start memory s (eqb-true _ 0 d) other).write_count

  address-done : is_done e ≡ true → eqb s.kind 6 ≡ false → (lane side o.state).address ≡ address_then (address_offset side) (cycle_kind side) s (lane side st).address
  address-done d other = by side
    where
      by : (of : Side) → (lane of o.state).address ≡ address_then (address_offset of) (cycle_kind of) s (lane of st).address
      by pci = (register_rule st start memory s (eqb-true _ 0 d) other).read_address
      by addon = (register_rule st start memory s (eqb-true _ 0 d) other).write_address

  -- a refused step leaves all but the right
  refused-lane : is_done e ≡ false → with_right false (lane side o.state) ≡ with_right false (lane side st)
  refused-lane d = by (eqb o.answer.code 13) refl side
    where
      by : (b : Bool) → eqb o.answer.code 13 ≡ b → (of : Side) → with_right false (lane of o.state) ≡ with_right false (lane of st)
      by true q pci = ap (λ (t : State). with_right false t.from_pci) (aborted st start memory s (eqb-true _ 13 q)).0.others
      by true q addon = ap (λ (t : State). with_right false t.from_addon) (aborted st start memory s (eqb-true _ 13 q)).0.others
      by false q of = ap (λ (p : Outcome). with_right false (lane of p.state)) (refused st start memory s d q)

  -- what a step does to a register that it does not touch
  module _ (offset : ℕ) (free : touches offset e ≡ false) where
    no_reset : is_done e ≡ true → eqb s.kind 6 ≡ false
    no_reset d = or_left (is_kind 6 e) _ (and_at (is_done e) _ d free)

    no_write : is_done e ≡ true → is_at 1 offset e ≡ false
    no_write d = or_right (is_kind 6 e) _ (and_at (is_done e) _ d free)

  count-step : touches (count_offset side) e ≡ false → (let c = (lane side st).count in (lane side o.state).count ≡ cond is_cycled (c - min 4 c) c)
  count-step free = by (is_done e) refl
    where
      by : (d : Bool) → is_done e ≡ d → (let c = (lane side st).count in (lane side o.state).count ≡ cond (d && is_kind (cycle_kind side) e) (c - min 4 c) c)
      by true d = count_done d (no_reset (count_offset side) free d) ∙ rw (no_write (count_offset side) free d)
      by false d = ap (λ (l : Lane). l.count) (refused-lane d)

  address_step : touches (address_offset side) e ≡ false → (let a = (lane side st).address in (lane side o.state).address ≡ cond is_cycled (further 1 a) a)
  address_step free = by (is_done e) refl
    where
      by : (d : Bool) → is_done e ≡ d → (let a = (lane side st).address in (lane side o.state).address ≡ cond (d && is_kind (cycle_kind side) e) (further 1 a) a)
      by true d = address-done d (no_reset (address_offset side) free d) ∙ rw (no_write (address_offset side) free d)
      by false d = ap (λ (l : Lane). l.address) (refused-lane d)

  -- code 10: a done cycle found a count
  some_left : is_cycled ≡ true → 0 < (lane side st).count
  some_left c =
      let z : o.answer.code ≡ 0 = eqb-true o.answer.code 0 (and_left (is_done e) (is_kind (cycle_kind side) e) c) in
      let none = any_none (before 0 (code_table st start (length memory) s)) (none_before 0 (code_table st start (length memory) s) (rw z at (first st start memory s).first)) 9 in
      by side (and_right (is_done e) _ c) none
    where
      by : (of : Side) → eqb s.kind (cycle_kind of) ≡ true → (eqb s.kind 5 && eqb st.from_pci.count 0 || eqb s.kind 4 && eqb st.from_addon.count 0) ≡ false
          → 0 < (lane of st).count
      by pci k n = let some = eqb-false st.from_pci.count 0 (and_at (eqb s.kind 5) _ k (or_left _ (eqb s.kind 4 && eqb st.from_addon.count 0) n)) in omega arith
      by addon k n = let some = eqb-false st.from_addon.count 0 (and_at (eqb s.kind 4) _ k (or_right (eqb s.kind 5 && eqb st.from_pci.count 0) _ n)) in omega arith

  answers-address : is_cycled ≡ true → e.answer.address ≡ (lane side st).address
  answers-address c =
      (answer_rule st start memory s (eqb-true _ 0 (and_left (is_done e) _ c))).address
      ∙ ap (λ (k : ℕ). get_or (addresses st) k 0) (eqb-true s.kind (cycle_kind side) (and_right (is_done e) _ c)) ∙ by side
    where
      by : (of : Side) → get_or (addresses st) (cycle_kind of) 0 ≡ (lane of st).address
      by pci = refl
      by addon = refl

  -- a done write to the count
  module _ (w : (is_done e && is_at 1 (count_offset side) e) ≡ true) where
    done : is_done e ≡ true
    done = and_left (is_done e) _ w

    writes : is_at 1 (count_offset side) e ≡ true
    writes = and_right (is_done e) _ w

    one : s.kind ≡ 1
    one = eqb-true s.kind 1 (and_left (is_kind 1 e) _ writes)

    bytes-written : (lane side o.state).count ≡ written_over (lane side st).count e % 2 ^ 26
    bytes-written = count_done done (rw one) ∙ rw writes (count_written (lane side st).count e)

    address_stays : (lane side o.state).address ≡ (lane side st).address
    address_stays = address-done done (rw one) ∙ by side writes
      where
        by : (of : Side) → is_at 1 (count_offset of) e ≡ true → address_then (address_offset of) (cycle_kind of) s (lane of st).address ≡ (lane of st).address
        by pci q = rw (one, eqb-true s.offset 0x30 (and_right (is_kind 1 e) _ q))
        by addon q = rw (one, eqb-true s.offset 0x28 (and_right (is_kind 1 e) _ q))

-- ---- a run

module _ (side : Side) (start : ℕ) where
  left_after : (c : Bool) (n m left : ℕ) (cycles : List Event) (e : Event) → m ≡ cond c (n - min 4 n) n → (c ≡ true → 0 < n) → Left m (length cycles) left
      → Left n (length (cond c (e ∷ cycles) cycles)) left
  left_after true n m left cycles e q p l =
      let some = p refl in
      let b = l.bytes_left in
      let t = l.to_come in
      record { bytes_left = omega arith; to_come = omega arith; fewer = λ h. omega arith }
  left_after false n m left cycles e q p l = rw q at l

  left-run : (steps : List Step) (st : State) (memory : List ℕ)
      → (let r = run st start memory steps in
      Untouched (count_offset side) r.events → Left (lane side st).count (length (done_cycles side r.events)) (lane side r.state).count)
  left-run [] st memory free = record { bytes_left = omega arith; to_come = omega arith; fewer = λ h. omega arith }
  left-run (s ∷ ss) st memory free =
      let o = step_of st start memory s in
      left_after (is_cycled side st start memory s) (lane side st).count (lane side o.state).count _ _ (e side st start memory s)
      (count-step side st start memory s free.0) (some_left side st start memory s) (left-run ss o.state o.memory free.1)

  abbrev Along : ℕ → ℕ → List Event → Type 0
  Along a last cycles = (addresses_of cycles ≡ up_from (length cycles) a) × (last ≡ further (length cycles) a)

  along-after : (c : Bool) (a b last : ℕ) (cycles : List Event) (e : Event) → b ≡ cond c (further 1 a) a → (c ≡ true → e.answer.address ≡ a)
      → Along b last cycles → Along a last (cond c (e ∷ cycles) cycles)
  along-after true a b last cycles e q p l = ((λ i. p refl i ∷ (l.0 ∙ ap (up_from (length cycles)) q) i), l.1 ∙ ap (further (length cycles)) q)
  along-after false a b last cycles e q p l = rw q at l

  along-run : (steps : List Step) (st : State) (memory : List ℕ)
      → (let r = run st start memory steps in
      Untouched (address_offset side) r.events → Along (lane side st).address (lane side r.state).address (done_cycles side r.events))
  along-run [] st memory free = (refl, refl)
  along-run (s ∷ ss) st memory free =
      let o = step_of st start memory s in
      along-after (is_cycled side st start memory s) (lane side st).address (lane side o.state).address _ _ (e side st start memory s)
      (address_step side st start memory s free.0) (answers-address side st start memory s) (along-run ss o.state o.memory free.1)

pub up_from_lem : UpFrom
up_from_lem zero a j h l = absurd (omega arith)
up_from_lem (suc n) a zero h l = omega arith
up_from_lem (suc n) a (suc j) h l = up_from_lem n ((a + 4) % 2 ^ 32) j (omega arith) (omega arith) ∙ further-on
  where
    further-on : ((a + 4) % 2 ^ 32 + 4 * j) % 2 ^ 32 ≡ (a + 4 * suc j) % 2 ^ 32
    further-on = omega arith

pub transfer_left : TransferLeft
transfer_left side st start memory steps free = left-run side start steps st memory free

pub transfer_addresses : TransferAddresses
transfer_addresses side st start memory steps free = along-run side start steps st memory free

pub transfer : Transfer
transfer side st start memory steps free none =
    let l = (transfer_left side st start memory steps free).to_come in
    let count : length (done_cycles side (run st start memory steps).events) ≡ ((lane side st).count + 3) / 4 = omega arith in
    (count, λ also. let along = transfer_addresses side st start memory steps also in rw count at along)

pub transfer_written : TransferWritten
transfer_written side st start memory write steps w =
    let o = step_of st start memory write in
    rw (bytes-written side st start memory write w, address_stays side st start memory write w) at (transfer side o.state start o.memory steps)
