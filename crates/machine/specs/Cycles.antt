-- FIFOs and memory cycles: the address and count registers, and what a memory cycle moves.
use Rattle.std.specs.Prelude.{ℕ, ◌+◌, ◌-◌, ◌%◌, ◌^◌, min, Bool, true, false, cond, not, ◌&&◌, List, eqb, leb, get_or, set}
use Rattle.machine.specs.Words.{bit, ones, shown, merged, written}
use Rattle.machine.specs.Sides.{Side, pci, addon, host}
use Rattle.machine.specs.State.{State, Lane, lane, held}
use Rattle.machine.specs.Offsets.{address_at, count_at}
use Rattle.machine.specs.Access.{Access, writes, cycles}
use Rattle.machine.specs.Commands.{clears_fifo}
use Rattle.machine.specs.Fifos.{front, amount, fifo_after}
use Rattle.machine.specs.Window.{place_of}
use Rattle.machine.specs.Mcsr.{four_bit}

-- n, the bytes that a cycle moves: four, or all that the count has left. Counts of bytes and fills of words are numbers here; the code keeps them apart by type.
abbrev pub moved : ℕ → ℕ
moved count = min 4 count

-- the enables of those bytes, from byte 0 up
unfoldable pub low_enables : ℕ → ℕ
low_enables count = 2 ^ moved count - 1

-- a cycle is ready with one word (held, or room for it), or four where MCSR asks for four and it has no right (Ask 5)
abbrev pub needed : Side → ℕ → Bool → ℕ
needed side mcsr right = cond (bit mcsr (four_bit side) && not right) 4 1

unfoldable pub is_ready : Side → State → Bool
is_ready side st = let l = lane side st in leb (needed side st.mcsr l.right) (amount side l.words)

-- The word that a cycle answers: a write cycle the whole front word that it takes,
-- a read cycle the memory word that it lets in, of which only the lowest n bytes are taken, zero above them (house).
unfoldable pub cycle_word : Side → State → ℕ → List ℕ → ℕ
cycle_word pci st start memory = let l = lane pci st in shown (get_or memory (place_of start l.address) 0) (low_enables l.count)
cycle_word addon st start memory = front (held addon st)

-- the memory after a write cycle: the lowest n bytes of the front word, the others of the memory word as they were
unfoldable pub stored : State → ℕ → List ℕ → List ℕ
stored st start memory =
    let l = lane addon st in
    let at = place_of start l.address in
    set memory at (merged (get_or memory at 0) (front l.words) (low_enables l.count))

-- Register offsets: an address has no bits 1 and 0, a count none above 25; code 1 asks for the same of what is held
abbrev pub address_kept : ℕ
address_kept = ones 2 31

abbrev pub count_kept : ℕ
count_kept = ones 0 25

-- a cycle moves its address on by one word, whatever n is; past the highest word comes address 0
abbrev pub next_address : ℕ → ℕ
next_address address = (address + 4) % 2 ^ 32

-- and takes what it moved off its count
abbrev pub count_left : ℕ → ℕ
count_left count = count - moved count

-- nothing is left of the count
abbrev pub runs_out : ℕ → Bool
runs_out count = eqb (count_left count) 0

unfoldable pub address_after : Side → Access → ℕ → ℕ
address_after side x old =
    cond (writes host (address_at side) x) (written address_kept old x.value x.enables)
    (cond (cycles side x.kind) (next_address old) old)

unfoldable pub count_after : Side → Access → ℕ → ℕ
count_after side x old =
    cond (writes host (count_at side) x) (written count_kept old x.value x.enables)
    (cond (cycles side x.kind) (count_left old) old)

-- Ask 5: a done cycle earns the right if MCSR asks for four and there were four before it
abbrev pub earns : Side → Access → ℕ → List ℕ → Bool
earns side x mcsr words = cycles side x.kind && bit mcsr (four_bit side) && leb 4 (amount side words)

-- the right before its other ends are looked at: none at the FIFO's clear, else earned now or had before
unfoldable pub right_after : Side → Access → ℕ → Lane → Bool
right_after side x mcsr l = cond (clears_fifo side x) false (cond (earns side x mcsr l.words) true l.right)

-- a lane after a done step that is no reset and whose answer shows a word; MCSR as it was before
abbrev pub lane_after : Side → Access → ℕ → ℕ → Lane → Lane
lane_after side x mcsr answered l =
    record {
      words = fifo_after side x answered l.words;
      address = address_after side x l.address;
      count = count_after side x l.count;
      right = right_after side x mcsr l;
    }
