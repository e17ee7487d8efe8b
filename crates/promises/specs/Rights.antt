-- Ask 5: the right of a burst as an account over a run; and that a burst runs to its end. The account goes by the numbers of steps and answers alone, as those of
-- `Account` do: no rule of the machine and no part of its state is used in it.
use Rattle.std.specs.Prelude.{ℕ, zero, suc, ◌+◌, ◌-◌, ◌*◌, ◌%◌, ◌^◌, ◌<◌, ◌≤◌, min, ◌≡◌, Bool, true, false, cond, not, ◌&&◌, ◌||◌, List, [], ◌∷◌, map, eqb, leb, length, replicate}
use Rattle.machine.specs.Words.{bit}
use Rattle.machine.specs.Sides.{Side, pci, addon}
use Rattle.machine.specs.State.{State, lane, held, reset_state}
use Rattle.machine.specs.Window.{inside, is_window_out_of_form}
use Rattle.machine.specs.Interrupts.{abort_in}
use Rattle.machine.specs.Code.{is_out_of_form}
use Rattle.machine.specs.Event.{Event, answers}
use Rattle.machine.specs.Run.{run}
use Rattle.machine.specs.declared.Step.{Step}
use Rattle.machine.specs.declared.Answer.{Answer}
use Rattle.promises.specs.Account.{is_done, is_kind, is_at, written_over, clears, words_in, words_out}

-- ---- of each lane: the kind of its cycles, the offset of its count, and the bits of MCSR that ask for four and that let its cycles go

abbrev pub cycle_kind : Side → ℕ
cycle_kind pci = 5
cycle_kind addon = 4

abbrev pub count_offset : Side → ℕ
count_offset pci = 0x30
count_offset addon = 0x28

abbrev pub asks_four : Side → ℕ
asks_four pci = 13
asks_four addon = 9

abbrev pub lets_go : Side → ℕ
lets_go pci = 14
lets_go addon = 10

-- what its cycles wait for, by the words that its FIFO holds: room for a read cycle, words for a write cycle
abbrev pub waits_for : Side → ℕ → ℕ
waits_for pci words = 8 - words
waits_for addon words = words

-- ---- the account

-- how many words the FIFO holds, the count, whether MCSR asks for four and whether it lets the cycles go, and the right
pub record Book : Type 0 where
  pub words : ℕ
  pub count : ℕ
  pub four : Bool
  pub on : Bool
  pub right : Bool

abbrev pub blank : Book
blank = record { words = 0; count = 0; four = false; on = false; right = false }

-- after a done event that is no reset. The words: those handed out are gone, those let in have come, a clear leaves none
abbrev pub words_then : Side → Event → ℕ → ℕ
words_then side e words = cond (clears side e) 0 (words - length (words_out side e) + length (words_in side e))

-- the count: written at its offset, where 26 bits are kept, or less by what a cycle moves
abbrev pub bytes_then : Side → Event → ℕ → ℕ
bytes_then side e count = cond (is_at 1 (count_offset side) e) (written_over count e % 2 ^ 26) (cond (is_kind (cycle_kind side) e) (count - min 4 count) count)

-- a bit of MCSR between 8 and 15: written at 3C, if byte 1 is enabled
abbrev pub mcsr_then : ℕ → Event → Bool → Bool
mcsr_then k e old = cond (is_at 1 0x3C e && bit e.step.enables 1) (bit e.step.value k) old

-- a cycle earns the right, if done, where MCSR asked for four and there were four before it
abbrev pub earned : Side → Book → Event → Bool
earned side b e = is_kind (cycle_kind side) e && b.four && leb 4 (waits_for side b.words)

-- what ends it: a clear of its FIFO, and what the event leaves: no word or no room, the count zero, four not asked for, the transfer off
abbrev pub ended_by : Side → Event → ℕ → ℕ → Bool → Bool → Bool
ended_by side e words count four on = clears side e || (eqb (waits_for side words) 0 || eqb count 0 || not four || not on)

abbrev pub turned : Side → Book → Event → Book
turned side b e =
    let words = words_then side e b.words in
    let count = bytes_then side e b.count in
    let four = mcsr_then (asks_four side) e b.four in
    let on = mcsr_then (lets_go side) e b.on in
    record { words = words; count = count; four = four; on = on; right = (b.right || earned side b e) && not (ended_by side e words count four on) }

-- a reset leaves a blank book; of the refusals code 13 ends the right, and none does anything else
abbrev pub book_after : Side → Book → Event → Book
book_after side b e =
    cond (is_done e) (cond (is_kind 6 e) blank (turned side b e))
    (record { words = b.words; count = b.count; four = b.four; on = b.on; right = b.right && not (eqb e.answer.code 13) })

abbrev pub book_from : Side → Book → List Event → Book
book_from side b [] = b
book_from side b (e ∷ es) = book_from side (book_after side b e) es

-- `right_account`: from reset, for any list of steps, a lane has the right exactly if the account says so: earned, and no end since
abbrev pub RightAccount : Type 0
RightAccount =
    (side : Side) (start : ℕ) (memory : List ℕ) (steps : List Step)
    → (let r = run reset_state start memory steps in (lane side r.state).right ≡ (book_from side blank r.events).right)

-- ---- a burst

-- the cycle of a lane; it ignores the other numbers
abbrev pub cycle_step : Side → Step
cycle_step side = record { kind = cycle_kind side; offset = 0; enables = 0; value = 0 }

-- an address, and those j words further on: past the highest word comes address 0
abbrev pub further : ℕ → ℕ → ℕ
further zero address = address
further (suc j) address = further j ((address + 4) % 2 ^ 32)

-- `burst_runs`: in a state in form, as every run from reset leaves it (`form_kept`), with its transfer on, four asked for, no abort standing, k words held
-- (room for k) and k at least 4, a count that k cycles do not outrun, and memory at the k addresses from its own on: k cycles in a row are done, and no word
-- (no room) is left
abbrev pub BurstRuns : Type 0
BurstRuns =
    (side : Side) (st : State) (start : ℕ) (memory : List ℕ)
    → (let k = waits_for side (length (held side st)) in
    let l = lane side st in
    let r = run st start memory (replicate k (cycle_step side)) in
    is_out_of_form st ≡ false → is_window_out_of_form start (length memory) ≡ false
    → bit st.mcsr (lets_go side) ≡ true → bit st.mcsr (asks_four side) ≡ true → abort_in st.intcsr ≡ false
    → 4 ≤ k → 4 * k < l.count + 4 → ((j : ℕ) → j < k → inside start (length memory) (further j l.address) ≡ true)
    → (map (λ (a : Answer). a.code) (answers r.events) ≡ replicate k 0) × (waits_for side (length (held side r.state)) ≡ 0))
