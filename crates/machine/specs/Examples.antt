-- Marked examples: the ten, as one table. Where nothing else is said, one begins at reset with the memory of the log program.
use Rattle.std.specs.Prelude.{ℕ, ◌≡◌, true, false, List, [], ◌∷◌, ◌++◌, map, get_or, set}
use Rattle.machine.specs.State.{State, reset_state}
use Rattle.machine.specs.Window.{zero_words}
use Rattle.machine.specs.Event.{answers}
use Rattle.machine.specs.Run.{Run, run}
use Rattle.machine.specs.declared.Step.{Step}
use Rattle.machine.specs.declared.Answer.{Answer}

-- where an example begins, its steps, and what is to be seen: every answer, and the memory words at some places after the last step
pub record Example : Type 0 where
  pub state : State
  pub start : ℕ
  pub memory : List ℕ
  pub steps : List Step
  pub answers : List Answer
  pub places : List ℕ
  pub words : List ℕ

pub record Observed : Type 0 where
  pub answers : List Answer
  pub words : List ℕ

abbrev pub expected : Example → Observed
expected e = record { answers = e.answers; words = e.words }

abbrev pub got : Run → Example → Observed
got model e =
    let r = model e.state e.start e.memory e.steps in
    record { answers = answers r.events; words = map (λ k. get_or r.memory k 0) e.places }

-- a run shows what every example of a table expects
abbrev pub MeetsTable : Run → List Example → Type 0
MeetsTable model table = map (got model) table ≡ map expected table

-- ---- steps and answers by name

abbrev pub step_by : ℕ → ℕ → ℕ → ℕ → Step
step_by kind offset enables value = record { kind = kind; offset = offset; enables = enables; value = value }

abbrev pub pci_read : ℕ → Step
pci_read offset = step_by 0 offset 15 0

abbrev pub pci_write : ℕ → ℕ → Step
pci_write offset value = step_by 1 offset 15 value

abbrev pub addon_read : ℕ → Step
addon_read offset = step_by 2 offset 15 0

abbrev pub addon_write : ℕ → ℕ → Step
addon_write offset value = step_by 3 offset 15 value

abbrev pub write_cycle : Step
write_cycle = step_by 4 0 0 0

abbrev pub read_cycle : Step
read_cycle = step_by 5 0 0 0

-- done, with data, both interrupt lines low
abbrev pub says : ℕ → Answer
says value = record { code = 0; address = 0; value = value; enables = 0; line = false; addon_line = false; changed = 0 }

abbrev pub ok : Answer
ok = says 0

-- a done cycle: its address, its word, its enables
abbrev pub moves : ℕ → ℕ → ℕ → Answer
moves address value enables = record { code = 0; address = address; value = value; enables = enables; line = false; addon_line = false; changed = 0 }

abbrev pub refuses : ℕ → Answer
refuses code = record { code = code; address = 0; value = 0; enables = 0; line = false; addon_line = false; changed = 0 }

-- code 13: the address, and both lines are high
abbrev pub absent : ℕ → Answer
absent address = record { code = 13; address = address; value = 0; enables = 0; line = true; addon_line = true; changed = 0 }

-- the same answer with PCI's line high, with the Add-On's, with both
abbrev pub high : Answer → Answer
high a = record { code = a.code; address = a.address; value = a.value; enables = a.enables; line = true; addon_line = a.addon_line; changed = a.changed }

abbrev pub addon_high : Answer → Answer
addon_high a = record { code = a.code; address = a.address; value = a.value; enables = a.enables; line = a.line; addon_line = true; changed = a.changed }

abbrev pub both_high : Answer → Answer
both_high a = high (addon_high a)

-- the same answer with marks that changed
abbrev pub turning : ℕ → Answer → Answer
turning changed a = record { code = a.code; address = a.address; value = a.value; enables = a.enables; line = a.line; addon_line = a.addon_line; changed = changed }

-- ---- the table

abbrev pub example : List Step → List Answer → Example
example steps answers =
    record { state = reset_state; start = 0; memory = zero_words; steps = steps; answers = answers; places = []; words = [] }

-- 7: five bytes to 100 by two write cycles; then the count, the address and INTCSR are read
abbrev pub seven_steps : List Step
seven_steps =
    pci_write 0x24 0x100 ∷ pci_write 0x28 5 ∷ pci_write 0x3C 0x400 ∷ addon_write 0x20 0x11223344 ∷ addon_write 0x20 0x55667788
    ∷ write_cycle ∷ write_cycle ∷ pci_read 0x28 ∷ pci_read 0x24 ∷ pci_read 0x38 ∷ []

abbrev pub seven_answers : List Answer
seven_answers =
    ok ∷ ok ∷ ok ∷ ok ∷ ok
    ∷ moves 0x100 0x11223344 0xF ∷ moves 0x104 0x55667788 0x1 ∷ says 0 ∷ says 0x108 ∷ says 0x40000 ∷ []

abbrev pub seven_memory : List ℕ
seven_memory = set zero_words 0x41 0xAAAAAAAA

-- example 7, and what follows it
abbrev pub after_seven : List Step → List Answer → Example
after_seven steps answers =
    record {
      state = reset_state;
      start = 0;
      memory = seven_memory;
      steps = seven_steps ++ steps;
      answers = seven_answers ++ answers;
      places = 0x40 ∷ 0x41 ∷ [];
      words = 0x11223344 ∷ 0xAAAAAA88 ∷ [];
    }

-- 9: the four steps before its first cycle, which would move one word to an address
abbrev pub nine_steps : ℕ → List Step
nine_steps address = pci_write 0x24 address ∷ pci_write 0x28 4 ∷ pci_write 0x3C 0x400 ∷ addon_write 0x20 7 ∷ []

abbrev pub marked : List Example
marked =
    -- 1
    example (pci_read 0x3C ∷ []) (says 0xE6 ∷ [])
    -- 2
    ∷ example (pci_write 0x38 0xFFFFFFFF ∷ pci_read 0x38 ∷ []) (ok ∷ says 0xDF1F ∷ [])
    -- 3
    ∷ example (pci_write 0x3C 0xFFFF ∷ pci_read 0x3C ∷ []) (ok ∷ says 0xF7E6 ∷ [])
    -- 4
    ∷ example (pci_write 0x28 0xFFFFFFFF ∷ pci_read 0x28 ∷ []) (ok ∷ says 0x03FFFFFF ∷ [])
    ∷ example (pci_write 0x24 0xFFFFFFFF ∷ pci_read 0x24 ∷ []) (ok ∷ says 0xFFFFFFFC ∷ [])
    -- 5, of each FIFO
    ∷ example
    (pci_write 0x20 1 ∷ pci_write 0x20 2 ∷ pci_write 0x20 3 ∷ pci_write 0x20 4 ∷ pci_write 0x20 5 ∷ pci_write 0x20 6 ∷ pci_write 0x20 7
    ∷ pci_write 0x20 8 ∷ pci_write 0x20 9 ∷ addon_read 0x20 ∷ pci_write 0x20 10 ∷ [])
    (ok ∷ ok ∷ ok ∷ ok ∷ ok ∷ ok ∷ ok ∷ ok ∷ refuses 8 ∷ says 1 ∷ ok ∷ [])
    ∷ example
    (addon_write 0x20 1 ∷ addon_write 0x20 2 ∷ addon_write 0x20 3 ∷ addon_write 0x20 4 ∷ addon_write 0x20 5 ∷ addon_write 0x20 6 ∷ addon_write 0x20 7
    ∷ addon_write 0x20 8 ∷ addon_write 0x20 9 ∷ pci_read 0x20 ∷ addon_write 0x20 10 ∷ [])
    (ok ∷ ok ∷ ok ∷ ok ∷ ok ∷ ok ∷ ok ∷ ok ∷ refuses 8 ∷ says 1 ∷ ok ∷ [])
    -- 6
    ∷ example (step_by 3 0x10 1 0xA5 ∷ pci_read 0x34 ∷ step_by 0 0x10 1 0 ∷ []) (turning 0x10000 ok ∷ says 0x10000 ∷ turning 0x10000 (says 0xA5) ∷ [])
    -- 7
    ∷ after_seven [] []
    -- 8
    ∷ after_seven (write_cycle ∷ []) (refuses 10 ∷ [])
    -- 9: at 3FFC; at 4000, again, and after writing INTCSR
    ∷ example (nine_steps 0x3FFC ++ write_cycle ∷ []) (ok ∷ ok ∷ ok ∷ ok ∷ moves 0x3FFC 7 0xF ∷ [])
    ∷ example
    (nine_steps 0x4000 ++ write_cycle ∷ write_cycle ∷ pci_write 0x38 0x00100000 ∷ write_cycle ∷ [])
    (ok ∷ ok ∷ ok ∷ ok ∷ absent 0x4000 ∷ both_high (refuses 11) ∷ addon_high ok ∷ absent 0x4000 ∷ [])
    -- 10: three words held, then four; by Ask 5 the other three go too
    ∷ example
    (pci_write 0x28 16 ∷ pci_write 0x3C 0x600 ∷ addon_write 0x20 1 ∷ addon_write 0x20 2 ∷ addon_write 0x20 3 ∷ write_cycle ∷ addon_write 0x20 4
    ∷ write_cycle ∷ write_cycle ∷ write_cycle ∷ write_cycle ∷ [])
    (ok ∷ ok ∷ ok ∷ ok ∷ ok ∷ refuses 12 ∷ ok ∷ moves 0 1 0xF ∷ moves 4 2 0xF ∷ moves 8 3 0xF ∷ moves 0xC 4 0xF ∷ [])
    ∷ []

-- `marked_hold`: the machine meets them all
abbrev pub MarkedHold : Type 0
MarkedHold = MeetsTable run marked
