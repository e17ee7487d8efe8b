-- The two sides of the chip, and who acts on them.
use Rattle.std.specs.Prelude.{ℕ, Bool, true, false, ◌||◌, eqb}

-- The buses. A FIFO is named by the side that feeds it.
pub data Side : Type 0 where
  pci addon : Side

abbrev pub other : Side → Side
other pci = addon
other addon = pci

abbrev pub same_side : Side → Side → Bool
same_side pci pci = true
same_side pci addon = false
same_side addon pci = false
same_side addon addon = true

-- something holds of one side or the other
abbrev pub either : (Side → Bool) → Bool
either holds = holds pci || holds addon

-- Who asks: the host on PCI, the card on the Add-On bus. A party is a line in each of the next two tables.
pub data Party : Type 0 where
  host card : Party

-- the bus that it asks on
abbrev pub side_of : Party → Side
side_of host = pci
side_of card = addon

-- its number, by which it is told from the others
abbrev pub party_number : Party → ℕ
party_number host = 0
party_number card = 1

abbrev pub same_party : Party → Party → Bool
same_party party by = eqb (party_number party) (party_number by)

-- the party that has the registers of a side, and the port by which its FIFO is fed
abbrev pub party_of : Side → Party
party_of pci = host
party_of addon = card
