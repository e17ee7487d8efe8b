-- What the controller holds.
use Rattle.std.specs.Prelude.{ℕ, Bool, false, List, [], replicate}
use Rattle.machine.specs.Sides.{Side, pci, addon}

-- A lane: the words of a FIFO, front first, the address and count registers of the cycles that work on it, and whether these have the right of a burst (Ask 5).
-- Write cycles work on the lane from the Add-On, read cycles on the lane from PCI.
pub record Lane : Type 0 where
  pub words : List ℕ
  pub address : ℕ
  pub count : ℕ
  pub right : Bool

-- The numbers and lists may be any; a controller's are words of 32 bits and eight mailbox words.
-- mail has the mailbox words by their offset / 4; marks has a one for each full byte, as the status register shows them
pub record State : Type 0 where
  pub mail : List ℕ
  pub marks : ℕ
  pub from_pci : Lane
  pub from_addon : Lane
  pub intcsr : ℕ
  pub mcsr : ℕ
  pub aint : ℕ

abbrev pub lane : Side → State → Lane
lane pci st = st.from_pci
lane addon st = st.from_addon

-- the words that the FIFO fed by a side holds; they are all that there is to a FIFO
abbrev pub held : Side → State → List ℕ
held side st = (lane side st).words

-- All else as it was: a lane with another right; a state with other lanes; a state with other interrupt registers.
abbrev pub with_right : Bool → Lane → Lane
with_right right l = record { words = l.words; address = l.address; count = l.count; right = right }

abbrev pub with_lanes : (Side → Lane → Lane) → State → State
with_lanes new st =
    record { mail = st.mail; marks = st.marks; from_pci = new pci st.from_pci; from_addon = new addon st.from_addon; intcsr = st.intcsr; mcsr = st.mcsr; aint = st.aint }

abbrev pub with_interrupts : (Side → ℕ → ℕ) → State → State
with_interrupts new st =
    record { mail = st.mail; marks = st.marks; from_pci = st.from_pci; from_addon = st.from_addon; intcsr = new pci st.intcsr; mcsr = st.mcsr; aint = new addon st.aint }

-- Register offsets, Ask 5: after a reset everything held is zero, no word is in a FIFO and no cycle has a right
abbrev pub reset_lane : Lane
reset_lane = record { words = []; address = 0; count = 0; right = false }

abbrev pub reset_state : State
reset_state = record { mail = replicate 8 0; marks = 0; from_pci = reset_lane; from_addon = reset_lane; intcsr = 0; mcsr = 0; aint = 0 }
