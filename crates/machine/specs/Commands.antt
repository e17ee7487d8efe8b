-- INTCSR and MCSR, Ask 3: the clears that a write to MCSR or to AGCSTS commands.
use Rattle.std.specs.Prelude.{ℕ, Bool, ◌&&◌}
use Rattle.machine.specs.Words.{bit}
use Rattle.machine.specs.Sides.{Side, pci, addon, either, party_of}
use Rattle.machine.specs.Offsets.{control_at}
use Rattle.machine.specs.Access.{Access, writes}

-- the party of a side writes a one to bit k, one of 24 to 31, of its control register at 3C, byte 3 enabled
abbrev pub commands : Side → ℕ → Access → Bool
commands side k x = writes (party_of side) control_at x && bit x.enables 3 && bit x.value k

-- by 27 of either all thirty-two mailbox marks go
abbrev pub clears_marks : Access → Bool
clears_marks x = either (λ by. commands by 27 x)

-- by 25 of MCSR the words from PCI go, by 26 those from the Add-On; AGCSTS has the two the other way round (Ask 3)
abbrev pub clear_bit : Side → Side → ℕ
clear_bit pci pci = 25
clear_bit pci addon = 26
clear_bit addon pci = 26
clear_bit addon addon = 25

abbrev pub clears_fifo : Side → Access → Bool
clears_fifo side x = either (λ by. commands by (clear_bit by side) x)
