-- INTCSR and MCSR, Ask 3: what MCSR keeps, its status, and what AGCSTS shows.
use Rattle.std.specs.Prelude.{ℕ, ◌+◌, ◌*◌, ◌^◌, cond, List, eqb, leb}
use Rattle.std.specs.Int.Bits.{bit_or}
use Rattle.machine.specs.Words.{ones, flag, written}
use Rattle.machine.specs.Sides.{Side, pci, addon, host}
use Rattle.machine.specs.State.{State, lane, held}
use Rattle.machine.specs.Offsets.{control_at}
use Rattle.machine.specs.Access.{Access, writes}
use Rattle.machine.specs.Fifos.{is_empty, is_full, amount}

-- the bits that stay as written: 15 to 8 without 11
abbrev pub mcsr_kept : ℕ
mcsr_kept = ones 12 15 + ones 8 10

-- the bit that lets a cycle on a lane go; 8, 12 and 15 are kept and do nothing: no rule names them
abbrev pub enable_bit : Side → ℕ
enable_bit pci = 14
enable_bit addon = 10

-- the bit that makes a write cycle wait for four words (9), a read cycle for room for four (13)
abbrev pub four_bit : Side → ℕ
four_bit pci = 13
four_bit addon = 9

unfoldable pub mcsr_after : Access → ℕ → ℕ
mcsr_after x old = cond (writes host control_at x) (written mcsr_kept old x.value x.enables) old

-- three bits of a FIFO: empty at 2, full at 0; at 1 four or more, counting free places of the one from PCI and words of the one from the Add-On
unfoldable pub fifo_status : Side → List ℕ → ℕ
fifo_status side ws = bit_or (bit_or (flag (is_empty ws) 2) (flag (leb 4 (amount side ws)) 1)) (flag (is_full ws) 0)

-- bits 7 and 6: the write count, the read count is zero; then the three bits of the FIFO from the Add-On, and lowest those of the one from PCI
unfoldable pub mcsr_status : State → ℕ
mcsr_status st =
    bit_or (bit_or (flag (eqb (lane addon st).count 0) 7) (flag (eqb (lane pci st).count 0) 6))
    (bit_or (fifo_status addon (held addon st) * 2 ^ 3) (fifo_status pci (held pci st)))

-- as it is read: the kept bits and the status; in form the command bits and all others are zero
unfoldable pub mcsr_read : State → ℕ
mcsr_read st = bit_or st.mcsr (mcsr_status st)

-- AGCSTS (Ask 3) holds nothing: it reads the bits of both FIFOs, those of the one from PCI in the higher places, and zero elsewhere
unfoldable pub agcsts_read : State → ℕ
agcsts_read st = bit_or (fifo_status pci (held pci st) * 2 ^ 3) (fifo_status addon (held addon st))
