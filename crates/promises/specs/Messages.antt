-- Ask 2, one message, one event: what a driver, or a card, that counts mailbox interrupts can rely on. Steps and answers are told by their numbers alone.
use Rattle.std.specs.Prelude.{ℕ, ◌<◌, ◌≡◌, Bool, true, cond, not, ◌&&◌, ◌||◌, List, ◌∷◌, ◌++◌, map, ltb}
use Rattle.machine.specs.Words.{bit, any_of}
use Rattle.machine.specs.Sides.{Side}
use Rattle.machine.specs.State.{State}
use Rattle.machine.specs.Interrupts.{interrupts}
use Rattle.machine.specs.Step.{step_of}
use Rattle.machine.specs.Event.{Event}
use Rattle.machine.specs.Run.{run}
use Rattle.promises.specs.Events.{flag_of, enable_of, chosen_of, telling_kind, is_read_kind, own_kind}
use Rattle.promises.specs.Account.{is_done, is_kind, is_at, owner_writes, other_reads, clears_bytes, Every}
use Rattle.machine.specs.declared.Step.{Step}

-- `changed_way`: the mark that an answer shows as changed was full before a read and is empty after it, and the other way round with a write
abbrev pub ChangedWay : Type 0
ChangedWay =
    (k : ℕ) → k < 32 → (st : State) (start : ℕ) (memory : List ℕ) (s : Step)
    → (let o = step_of st start memory s in
    bit o.answer.changed k ≡ true → (bit st.marks k ≡ is_read_kind s.kind) × (bit o.state.marks k ≡ not (is_read_kind s.kind)))

-- an answer tells a side that byte k changed
abbrev pub tells : Side → Bool → ℕ → Event → Bool
tells side outgoing k e = is_kind (telling_kind side outgoing) e && bit e.answer.changed k

-- no done write of a side's interrupt register, and no done reset
abbrev pub leaves_interrupts : Side → Event → Bool
leaves_interrupts side e = not (is_done e && (is_kind 6 e || is_at (own_kind side) 0x38 e))

-- `driver_counts`: of INTCSR and of AINT, as long as it is not written, a step sets the flag exactly if the enable was set then, and the step's answer tells
-- of the byte that was chosen then
abbrev pub DriverCounts : Type 0
DriverCounts =
    (side : Side) (outgoing : Bool) (st : State) (start : ℕ) (memory : List ℕ) (steps : List Step) (s : Step)
    → (let r = run st start memory steps in let o = step_of r.state start r.memory s in let e : Event = record { step = s; answer = o.answer } in
    let i = interrupts side st in
    Every (λ (g : Event). leaves_interrupts side g ≡ true) r.events → leaves_interrupts side e ≡ true
    → bit (interrupts side o.state) (flag_of outgoing)
    ≡ (bit (interrupts side r.state) (flag_of outgoing) || bit i (enable_of outgoing) && tells side outgoing (chosen_of outgoing i) e))

-- what makes room for the next message in byte k: an access the other way (a write by its owner, if a read was told; a read by the other side, if a write
-- was), a clear or a reset, done
abbrev pub takes_back : Side → ℕ → Event → Bool
takes_back side k e = is_done e && (clears_bytes e || cond (is_read_kind (telling_kind side (ltb k 16))) (owner_writes k e) (other_reads k e))

-- `one_message`: between two answers that tell a side of the same byte there is one of those, in any run
abbrev pub OneMessage : Type 0
OneMessage =
    (side : Side) (k : ℕ) → k < 32 → (st : State) (start : ℕ) (memory : List ℕ) (steps : List Step) (before between after : List Event) (e f : Event)
    → (run st start memory steps).events ≡ before ++ e ∷ between ++ f ∷ after → tells side (ltb k 16) k e ≡ true → tells side (ltb k 16) k f ≡ true
    → any_of (map (takes_back side k) between) ≡ true
