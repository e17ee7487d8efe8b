-- Ask 8: how many cycles a transfer takes, once over the lane. What is counted goes by the numbers of steps and answers alone, as the accounts of `Account` do; of the
-- state nothing is used but what a lane's count and address registers show (`register_table`).
use Rattle.std.specs.Prelude.{ℕ, zero, suc, ◌+◌, ◌-◌, ◌*◌, ◌/◌, ◌%◌, ◌^◌, ◌<◌, ◌≡◌, Bool, true, false, cond, ◌&&◌, ◌||◌, List, [], ◌∷◌, map, length, get_or}
use Rattle.machine.specs.Sides.{Side, pci, addon}
use Rattle.machine.specs.State.{State, lane}
use Rattle.machine.specs.Step.{step_of}
use Rattle.machine.specs.Event.{Event}
use Rattle.machine.specs.Run.{RunOutcome, run}
use Rattle.promises.specs.Account.{is_done, is_kind, is_at, written_over, Every}
use Rattle.promises.specs.Rights.{cycle_kind, count_offset, further}
use Rattle.machine.specs.declared.Step.{Step}

-- the offset of a lane's address register, beside that of its count and the kind of its cycles
abbrev pub address_offset : Side → ℕ
address_offset pci = 0x2C
address_offset addon = 0x24

-- ---- what is counted

-- a PCI write to the register at an offset, with any enables, or a reset, done; and that there is none
abbrev pub touches : ℕ → Event → Bool
touches offset e = is_done e && (is_kind 6 e || is_at 1 offset e)

abbrev pub Untouched : ℕ → List Event → Type 0
Untouched offset es = Every (λ (e : Event). touches offset e ≡ false) es

-- the cycles of a lane that answer done, and the addresses that they answer
abbrev pub done_cycles : Side → List Event → List Event
done_cycles side [] = []
done_cycles side (e ∷ es) = cond (is_done e && is_kind (cycle_kind side) e) (e ∷ done_cycles side es) (done_cycles side es)

abbrev pub addresses_of : List Event → List ℕ
addresses_of es = map (λ (e : Event). e.answer.address) es

-- a number of bytes divided by 4, rounded up
abbrev pub cycles_for : ℕ → ℕ
cycles_for bytes = (bytes + 3) / 4

-- n addresses: the first, and on by 4 modulo 2^32
abbrev pub up_from : ℕ → ℕ → List ℕ
up_from zero address = []
up_from (suc n) address = address ∷ up_from n (further 1 address)

-- `up_from_lem`: so the j-th of them, from 0 on, is the first and 4 j more, modulo 2^32
abbrev pub UpFrom : Type 0
UpFrom = (n address j : ℕ) → address < 2 ^ 32 → j < n → get_or (up_from n address) j 0 ≡ (address + 4 * j) % 2 ^ 32

-- ---- until the count shows zero

-- a run, as a transfer of a number of bytes from an address on: if nothing touches the count and it shows zero at last, exactly the bytes divided by 4, rounded up,
-- cycles were done; if nothing touches the address either, they answered that address and on, and the register has the next
abbrev pub Transferred : Side → ℕ → ℕ → RunOutcome → Type 0
Transferred side bytes address r =
    let cycles = done_cycles side r.events in
    let l = lane side r.state in
    Untouched (count_offset side) r.events → l.count ≡ 0
    → (length cycles ≡ cycles_for bytes)
    × (Untouched (address_offset side) r.events → (addresses_of cycles ≡ up_from (cycles_for bytes) address) × (l.address ≡ further (cycles_for bytes) address))

-- `transfer`: from every state, over any window and any steps, refused ones too. It holds when the count first shows zero and, as long as nothing touches it, later;
-- before that fewer were done (`transfer_left`)
abbrev pub Transfer : Type 0
Transfer =
    (side : Side) (st : State) (start : ℕ) (memory : List ℕ) (steps : List Step)
    → Transferred side (lane side st).count (lane side st).address (run st start memory steps)

-- `transfer_written`: so from a done PCI write to the count on, of the bytes that it leaves there: its enabled bytes and the others as they were, of which 26 bits are kept
abbrev pub TransferWritten : Type 0
TransferWritten =
    (side : Side) (st : State) (start : ℕ) (memory : List ℕ) (write : Step) (steps : List Step)
    → (let o = step_of st start memory write in let e : Event = record { step = write; answer = o.answer } in
    (is_done e && is_at 1 (count_offset side) e) ≡ true
    → Transferred side (written_over (lane side st).count e % 2 ^ 26) (lane side st).address (run o.state start o.memory steps))

-- ---- at any moment

-- of a number of bytes, after a number of cycles: four less are left for each, as far as there are so many; what is left says how many cycles are to come, and as long
-- as there is any, fewer were done
pub record Left (bytes done left : ℕ) : Type 0 where
  pub bytes_left : left ≡ bytes - 4 * done
  pub to_come : done + cycles_for left ≡ cycles_for bytes
  pub fewer : 0 < left → done < cycles_for bytes

-- `transfer_left`: from every state, over any window and any steps that leave the count untouched
abbrev pub TransferLeft : Type 0
TransferLeft =
    (side : Side) (st : State) (start : ℕ) (memory : List ℕ) (steps : List Step)
    → (let r = run st start memory steps in
    Untouched (count_offset side) r.events → Left (lane side st).count (length (done_cycles side r.events)) (lane side r.state).count)

-- `transfer_addresses`: over any that leave the address untouched, whatever becomes of the count
abbrev pub TransferAddresses : Type 0
TransferAddresses =
    (side : Side) (st : State) (start : ℕ) (memory : List ℕ) (steps : List Step)
    → (let r = run st start memory steps in let cycles = done_cycles side r.events in let address = (lane side st).address in
    Untouched (address_offset side) r.events
    → (addresses_of cycles ≡ up_from (length cycles) address) × ((lane side r.state).address ≡ further (length cycles) address))
