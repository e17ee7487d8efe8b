-- Where the words of a side stand, among those of a controller: of its lane the places of the FIFO and the numbers, and its interrupt register.
use Rattle.std.specs.Prelude.{ℕ}
use Rattle.machine.specs.Sides.{Side, pci, addon}

-- the first of the FIFO's eight places
abbrev pub fifo_place : Side → ℕ
fifo_place pci = 8
fifo_place addon = 16

abbrev pub address_place : Side → ℕ
address_place pci = 28
address_place addon = 32

abbrev pub count_place : Side → ℕ
count_place pci = 29
count_place addon = 33

abbrev pub head_place : Side → ℕ
head_place pci = 30
head_place addon = 34

abbrev pub fill_place : Side → ℕ
fill_place pci = 31
fill_place addon = 35

abbrev pub right_place : Side → ℕ
right_place pci = 36
right_place addon = 37

-- INTCSR, AINT
abbrev pub interrupts_place : Side → ℕ
interrupts_place pci = 25
interrupts_place addon = 27
