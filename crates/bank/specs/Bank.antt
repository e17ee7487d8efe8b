-- The machine's state that a bank of numbers and three runs of words stand for: the mailbox words, and the places of the two FIFOs.
use Rattle.std.specs.Prelude.{ℕ, List}
use Rattle.fifo.specs.Ring.{from}
use Rattle.machine.specs.Sides.{Side, pci, addon}
use Rattle.machine.specs.State.{State, Lane}
use Rattle.bank.specs.declared.Bank.{Bank}
use Rattle.bank.specs.declared.LaneBank.{LaneBank}

-- the numbers of the lane that a side feeds
abbrev pub lane_in : Side → Bank → LaneBank
lane_in pci b = b.from_pci
lane_in addon b = b.from_addon

-- the lane of its numbers and the places of its FIFO
abbrev pub lane_with : LaneBank → List ℕ → Lane
lane_with b places = record { words = from 8 0 places b.head b.fill.0; address = b.address; count = b.count.0; right = b.right }

unfoldable pub state_in : Bank → List ℕ → List ℕ → List ℕ → State
state_in b mail pcis addons =
    record {
      mail = mail;
      marks = b.marks;
      from_pci = lane_with b.from_pci pcis;
      from_addon = lane_with b.from_addon addons;
      intcsr = b.intcsr;
      mcsr = b.mcsr;
      aint = b.aint;
    }
