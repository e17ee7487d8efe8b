-- The FIFO account: to each FIFO the events of a run are moves of a queue, of which the law of queues holds (`Queues`).
use Prim.Native.Nat.{ℕ, zero, suc, ◌-◌, ◌≤◌, ◌<◌}
use mathlib.Core.Path.{◌≡◌, refl, sym, subst, ◌∙◌}
use mathlib.Core.Bool.{Bool, true, false, cond, not, ◌&&◌, true≢false}
use mathlib.Core.List.{List, [], ◌∷◌, ◌++◌, append-nil}
use native.Mathlib.Omega.{arith}
use lib.Dec.{eqb, leb, eqb-suc-zero}
use lib.ListN.{length, drop}
use Rattle.machine.specs.Words.{bit}
use Rattle.machine.specs.Sides.{Side, pci, addon, other, host, card, party_of}
use Rattle.machine.specs.State.{State, held, reset_state}
use Rattle.machine.specs.Access.{Access, access_of, Kind, reading, writing, cycle, chip_reset, unknown, cycles, reads, writes}
use Rattle.machine.specs.Offsets.{fifo_port}
use Rattle.machine.specs.Commands.{clears_fifo}
use Rattle.machine.specs.Fifos.{cycle_feeds, let_in, handed_out, fifo_after, is_empty, is_full, front, followed}
use Rattle.machine.specs.Cycles.{is_ready, cycle_word}
use Rattle.machine.specs.Code.{code_of, tests, is_port_stuck, is_full_or_empty, is_not_ready}
use Rattle.machine.specs.Rights.{settled}
use Rattle.machine.specs.Step.{reply_of, done_reply, read_value, moved_state, done_state, aborted_state, step_of, respond, answered}
use Rattle.machine.specs.Event.{Event}
use Rattle.machine.specs.Run.{RunOutcome, run}
use Rattle.promises.specs.Queues.{Move, queue_after, queue_from, Makes, MakesAll, fresh, tallied_from}
use Rattle.promises.specs.Account.{clears, move_of, moves_of}
use Rattle.promises.specs.Theorems.{FifoAccount, FifoRoom}
use Rattle.machine.specs.declared.Step.{Step}
use Rattle.laws.proofs.Tests.{none_applies, neither, or_right, and_at}
use Rattle.laws.proofs.Done.{room_to_write, room_to_read}
use Rattle.promises.proofs.Queues.{queue_account}
use Rattle.promises.proofs.Numbers.{in_is, out-is, clears-is}
use Rattle.promises.proofs.After.{part-refused, part-done}

-- ---- one step

pub held_done : (side : Side) (st : State) (x : Access) (word : ℕ) → held side (done_state st x word) ≡ fifo_after side x word (held side st)
unfolding moved_state settled done_state
held_done pci st x word = refl
held_done addon st x word = refl

held_aborted : (side : Side) (st : State) → held side (aborted_state st) ≡ held side st
unfolding aborted_state
held_aborted pci st = refl
held_aborted addon st = refl

held_reset : (side : Side) → held side reset_state ≡ []
held_reset pci = refl
held_reset addon = refl

-- code 8 keeps a port read from an empty FIFO, and code 12 a write cycle
not_stuck : (side : Side) (st : State) (x : Access) → is_full_or_empty st x ≡ false → (reads (party_of (other side)) fifo_port x && is_empty (held side st)) ≡ false
unfolding is_full_or_empty
not_stuck side st x e = or_right (writes (party_of side) fifo_port x && is_full (held side st)) _ (neither (λ s. is_port_stuck s st x) e side)

ready_holds : (four : Bool) (ws : List ℕ) → not (leb (cond four 4 1) (length ws)) ≡ false → is_empty ws ≡ false
ready_holds true [] e = e
ready_holds false [] e = e
ready_holds four (w ∷ ws) e = eqb-suc-zero (length ws)

holds_one : (st : State) (x : Access) → cycles addon x.kind ≡ true → is_not_ready st x ≡ false → is_empty (held addon st) ≡ false
unfolding is_not_ready is_ready
holds_one st x c f =
    ready_holds (bit st.mcsr 9 && not st.from_addon.right) (held addon st) (and_at (cycles addon x.kind) _ c (neither (λ s. cycles s x.kind && not (is_ready s st)) f addon))

-- what is handed out stands in front
abbrev InFront : List ℕ → List ℕ → Type 0
InFront out ws = ws ≡ out ++ drop (length out) ws

front_first : (p : Bool) (ws : List ℕ) (w : ℕ) → (p && is_empty ws) ≡ false → InFront (cond p (cond p (front ws) w ∷ []) []) ws
front_first true [] w e = absurd (true≢false e)
front_first true (v ∷ ws) w e = refl
front_first false ws w e = refl

abbrev access : Kind → ℕ → ℕ → ℕ → Access
access k o n v = record { kind = k; offset = o; enables = n; value = v }

by_kind : (side : Side) (st : State) (start : ℕ) (memory : List ℕ) (k : Kind) (o n v : ℕ)
    → (let x = access k o n v in is_full_or_empty st x ≡ false → is_not_ready st x ≡ false → InFront (handed_out side x (done_reply k st start memory x).value) (held side st))
unfolding done_reply read_value cycle_word
by_kind pci st start memory (reading host) o n v e f = refl
by_kind pci st start memory (reading card) o n v e f = front_first (eqb o 0x20) (held pci st) _ (not_stuck pci st (access (reading card) o n v) e)
by_kind pci st start memory (writing party) o n v e f = refl
by_kind pci st start memory (cycle side) o n v e f = refl
by_kind pci st start memory chip_reset o n v e f = refl
by_kind pci st start memory unknown o n v e f = refl
by_kind addon st start memory (reading host) o n v e f = front_first (eqb o 0x20) (held addon st) _ (not_stuck addon st (access (reading host) o n v) e)
by_kind addon st start memory (reading card) o n v e f = refl
by_kind addon st start memory (writing party) o n v e f = refl
by_kind addon st start memory (cycle pci) o n v e f = refl
by_kind addon st start memory (cycle addon) o n v e f = front_first true (held addon st) 0 (holds_one st (access (cycle addon) o n v) refl f)
by_kind addon st start memory chip_reset o n v e f = refl
by_kind addon st start memory unknown o n v e f = refl

in_front : (side : Side) (st : State) (start : ℕ) (memory : List ℕ) (x : Access) → code_of st start (length memory) x ≡ 0
    → InFront (handed_out side x (done_reply x.kind st start memory x).value) (held side st)
unfolding code_of
in_front side st start memory x e =
    let none = none_applies (tests st start (length memory) x) refl e in
    by_kind side st start memory x.kind x.offset x.enables x.value (none 8) (none 12)

followed_is : (ws new : List ℕ) → followed ws new ≡ ws ++ new
followed_is ws [] = sym (append-nil ws)
followed_is ws (n ∷ ns) = refl

-- what is let in has room: code 8 keeps a port write from a full FIFO, and code 12 a read cycle
one_fits : (c w : Bool) (n out a v : ℕ) → (c ≡ true → n < 8) → (w ≡ true → n < 8) → length (cond c (a ∷ []) (cond w (v ∷ []) [])) ≤ 8 - (n - out)
one_fits true w n out a v f g = let h = f refl in omega arith
one_fits false true n out a v f g = let h = g refl in omega arith
one_fits false false n out a v f g = omega arith

has_room : (side : Side) (st : State) (start words : ℕ) (x : Access) (word out : ℕ) → code_of st start words x ≡ 0
    → length (let_in side x word) ≤ 8 - (length (held side st) - out)
unfolding code_of
has_room side st start words x word out e =
    let none = none_applies (tests st start words x) refl e in
    one_fits (cycle_feeds side x) (writes (party_of side) fifo_port x) (length (held side st)) out word x.value (room_to_read side st x (none 12)) (room_to_write side st x (none 8))

-- ---- a step is a move of a queue eight deep

module _ (side : Side) (st : State) (start : ℕ) (memory : List ℕ) (s : Step) where
  abbrev event : ℕ → Event
  event code = record { step = s; answer = (respond st start memory (access_of s) code).answer }

  -- for any code that is 0 only where the step is done
  move-made : (code : ℕ) → (code ≡ 0 → code_of st start (length memory) (access_of s) ≡ 0) → Makes 8 (held side st) (move_of side (event code))
  unfolding respond answered reply_of
  move-made zero c =
      let x = access_of s in
      let word = (done_reply x.kind st start memory x).value in
      let move : Move ℕ = record { clears = clears side (event 0); let_in = let_in side x word; handed_out = handed_out side x word } in
      let made : Makes 8 (held side st) move =
      record { front = in_front side st start memory x (c refl); room = has_room side st start (length memory) x word (length (handed_out side x word)) (c refl) } in
      subst (Makes 8 (held side st)) (λ i. record { clears = clears side (event 0); let_in = in_is (event 0) side i; handed_out = out-is (event 0) side i }) made
  move-made (suc n) c = rw (eqb-suc-zero n) (record { front = refl; room = omega arith })

  move-after : (code : ℕ) → queue_after (held side st) (move_of side (event code)) ≡ held side (respond st start memory (access_of s) code).state
  unfolding respond answered reply_of
  move-after zero =
      let x = access_of s in
      let word = (done_reply x.kind st start memory x).value in
      let ws = held side st in
      sym
      (part-done (held side) st x word (clears_fifo side x) [] _ (held_reset side) (held_done side st x word)
      ∙ (λ i. cond (clears-is (event 0) side i) [] (followed_is (drop (length (handed_out side x word)) ws) (let_in side x word) i))
      ∙ (λ i. cond (clears side (event 0)) [] (drop (length (out-is (event 0) side i)) ws ++ in_is (event 0) side i)))
  move-after (suc n) =
      rw (part-refused (held side) st (access_of s) n (reply_of st start memory (access_of s) (suc n)).value (held_aborted side st), eqb-suc-zero n) (append-nil (held side st))

-- ---- a run is a list of them

-- a queue that holds some words makes the moves of a run, and holds at last what the FIFO does
pub record Keeps (side : Side) (ws : List ℕ) (r : RunOutcome) : Type 0 where
  pub makes : MakesAll 8 ws (moves_of side r.events)
  pub holds : queue_from ws (moves_of side r.events) ≡ held side r.state

keeps_run : (side : Side) (start : ℕ) (steps : List Step) (st : State) (memory : List ℕ) → Keeps side (held side st) (run st start memory steps)
unfolding step_of
keeps_run side start [] st memory = record { makes = tt; holds = refl }
keeps_run side start (s ∷ ss) st memory =
    let o = step_of st start memory s in
    let code = code_of st start (length memory) (access_of s) in
    let rest =
    subst (λ (ws : List ℕ). Keeps side ws (run o.state start o.memory ss)) (sym (move-after side st start memory s code)) (keeps_run side start ss o.state o.memory) in
    record { makes = (move-made side st start memory s code (λ e. e), rest.makes); holds = rest.holds }

-- from reset
pub keeps : (side : Side) (start : ℕ) (memory : List ℕ) (steps : List Step) → Keeps side [] (run reset_state start memory steps)
keeps side start memory steps =
    subst (λ (ws : List ℕ). Keeps side ws (run reset_state start memory steps)) (held_reset side) (keeps_run side start steps reset_state memory)

module _ (side : Side) (start : ℕ) (memory : List ℕ) (steps : List Step) where
  abbrev moves : List (Move ℕ)
  moves = moves_of side (run reset_state start memory steps).events

  law : ((tallied_from fresh moves).let_in ≡ (tallied_from fresh moves).handed_out ++ queue_from [] moves) × (length (queue_from [] moves) ≤ 8)
  law = queue_account ℕ 8 moves (keeps side start memory steps).makes

pub fifo_account : FifoAccount
fifo_account side start memory steps =
    rw (keeps side start memory steps).holds at (law side start memory steps).0

pub fifo_room : FifoRoom
fifo_room side start memory steps = rw (keeps side start memory steps).holds at (law side start memory steps).1
