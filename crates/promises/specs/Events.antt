-- INTCSR and MCSR, Asks 2 and 3: which steps raise and which lower each flag of INTCSR and of AINT, by numbers alone. No mask, test or name of a kind of the
-- machine's is used: kinds and offsets are numbers, registers are told by their bits, a count is a number before the step and one after it.
use Rattle.std.specs.Prelude.{ℕ, ◌+◌, ◌/◌, ◌%◌, ◌^◌, ◌≡◌, Bool, false, cond, not, ◌&&◌, ◌||◌, List, eqb}
use Rattle.machine.specs.Words.{bit}
use Rattle.machine.specs.Sides.{Side, pci, addon}
use Rattle.machine.specs.State.{State}
use Rattle.machine.specs.Interrupts.{interrupts}
use Rattle.machine.specs.Step.{step_of}
use Rattle.machine.specs.Event.{Event}
use Rattle.promises.specs.Account.{is_done, is_kind, is_at, to_byte}
use Rattle.machine.specs.declared.Step.{Step}

-- ---- 16 and 17, the mailbox events

-- Of the outgoing half, and else of the incoming one: the flag in INTCSR and AINT, its enable, and the status bit of the byte that the register chooses.
abbrev pub flag_of : Bool → ℕ
flag_of outgoing = cond outgoing 16 17

abbrev pub enable_of : Bool → ℕ
enable_of outgoing = cond outgoing 4 12

abbrev pub chosen_of : Bool → ℕ → ℕ
chosen_of outgoing i = cond outgoing (i % 16) (16 + i / 2 ^ 8 % 16)

-- the kind of the accesses that are a side's events: the driver hears of the Add-On's reads of outgoing bytes (2) and writes of incoming ones (3), the card of
-- PCI's writes of outgoing bytes (1) and reads of incoming ones (0)
abbrev pub telling_kind : Side → Bool → ℕ
telling_kind pci outgoing = cond outgoing 2 3
telling_kind addon outgoing = cond outgoing 1 0

abbrev pub is_read_kind : ℕ → Bool
is_read_kind kind = eqb kind 0 || eqb kind 2

-- an access of that kind to the chosen byte, which is enabled, while the event is, that changes the byte's mark: full before a read, empty before a write
abbrev pub is_mail_event : Side → Bool → ℕ → ℕ → Event → Bool
is_mail_event side outgoing i marks e =
    let kind = telling_kind side outgoing in
    let k = chosen_of outgoing i in
    is_kind kind e && (bit i (enable_of outgoing) && (to_byte k e && cond (is_read_kind kind) (bit marks k) (not (bit marks k))))

-- ---- the other flags

-- 18 and 19: a cycle of a kind brings its count to zero
abbrev pub uses_up : ℕ → Event → ℕ → ℕ → Bool
uses_up kind e before after = is_kind kind e && (not (eqb before 0) && eqb after 0)

-- code 13: INTCSR 20 and AINT 21
abbrev pub abort_flag : Side → ℕ
abort_flag pci = 20
abort_flag addon = 21

-- ---- the rule

-- the kind of the writes of a side's register
abbrev pub own_kind : Side → ℕ
own_kind pci = 1
own_kind addon = 3

-- what lowers flag k, if done: a reset, and a one that its side writes to it at 38, its byte enabled
abbrev pub lowers : Side → ℕ → Event → Bool
lowers side k e = is_done e && (is_kind 6 e || is_at (own_kind side) 0x38 e && bit e.step.enables 2 && bit e.step.value k)

-- flag k of a side's register after a step that raises it, or does not: up if it is raised, or was up and is not lowered
abbrev pub FlagThen : Side → ℕ → State → Event → State → Bool → Type 0
FlagThen side k st e after raises = bit (interrupts side after) k ≡ (bit (interrupts side st) k && not (lowers side k e) || raises)

pub record FlagsThen (side : Side) (st : State) (e : Event) (after : State) : Type 0 where
  pub mail : (outgoing : Bool) → FlagThen side (flag_of outgoing) st e after (is_done e && is_mail_event side outgoing (interrupts side st) st.marks e)
  pub write_count : FlagThen side 18 st e after (is_done e && uses_up 4 e st.from_addon.count after.from_addon.count)
  pub read_count : FlagThen side 19 st e after (is_done e && uses_up 5 e st.from_pci.count after.from_pci.count)
  pub abort : FlagThen side (abort_flag side) st e after (eqb e.answer.code 13)

-- `event_rule`: one rule for INTCSR and AINT, of every step on every state: 16 and 17 are raised by mailbox events, 18 by a done write cycle and 19 by a done read
-- cycle that brings its count to zero, the abort flag by code 13, and INTCSR 21 by nothing; nothing else raises one
abbrev pub EventRule : Type 0
EventRule =
    (st : State) (start : ℕ) (memory : List ℕ) (s : Step)
    → (let o = step_of st start memory s in let e : Event = record { step = s; answer = o.answer } in
    ((side : Side) → FlagsThen side st e o.state) × FlagThen pci 21 st e o.state false)
