-- FIFOs and memory cycles: the two FIFOs, as lists of words, front first. Each is named by the side that feeds it.
use Rattle.std.specs.Prelude.{ℕ, ◌-◌, Bool, false, cond, ◌||◌, List, [], ◌∷◌, ◌++◌, eqb, leb, length, drop, get_or}
use Rattle.machine.specs.Sides.{Side, pci, addon, other, party_of}
use Rattle.machine.specs.Offsets.{fifo_port}
use Rattle.machine.specs.Access.{Access, reads, writes, cycles}
use Rattle.machine.specs.Commands.{clears_fifo}

-- how many words fit in; a fill is the length of the list, whatever went before, so a place once used is free again
abbrev pub depth : ℕ
depth = 8

abbrev pub is_empty : List ℕ → Bool
is_empty ws = eqb (length ws) 0

abbrev pub is_full : List ℕ → Bool
is_full ws = leb depth (length ws)

abbrev pub front : List ℕ → ℕ
front ws = get_or ws 0 0

-- what a cycle on a lane waits for: words held for a write cycle, room for a read cycle
abbrev pub amount : Side → List ℕ → ℕ
amount pci ws = depth - length ws
amount addon ws = length ws

-- a read cycle puts a word in with those from PCI; no cycle does with those from the Add-On
abbrev pub cycle_feeds : Side → Access → Bool
cycle_feeds pci x = cycles pci x.kind
cycle_feeds addon x = false

-- a write cycle takes a word of those from the Add-On; no cycle takes one of those from PCI
abbrev pub cycle_takes : Side → Access → Bool
cycle_takes pci x = false
cycle_takes addon x = cycles addon x.kind

-- The words that a done step lets in: the word that its answer shows for a cycle, its data for a port write by the side's party.
abbrev pub let_in : Side → Access → ℕ → List ℕ
let_in side x answered = cond (cycle_feeds side x) (answered ∷ []) (cond (writes (party_of side) fifo_port x) (x.value ∷ []) [])

-- The words that it hands out: the word that its answer shows, for a cycle or a port read by the other side's party.
abbrev pub handed_out : Side → Access → ℕ → List ℕ
handed_out side x answered = cond (cycle_takes side x || reads (party_of (other side)) fifo_port x) (answered ∷ []) []

-- one list behind another; with nothing new it computes to the first
abbrev pub followed : List ℕ → List ℕ → List ℕ
followed ws [] = ws
followed ws (n ∷ ns) = ws ++ n ∷ ns

-- a FIFO after a done step that is no reset: words leave at the front and come in behind the last; a clear leaves none
abbrev pub fifo_after : Side → Access → ℕ → List ℕ → List ℕ
fifo_after side x answered ws =
    cond (clears_fifo side x) [] (followed (drop (length (handed_out side x answered)) ws) (let_in side x answered))
