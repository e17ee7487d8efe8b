-- A controller as words that stand one after the other: which words stand for one, and for which state.
use Rattle.std.specs.Prelude.{ℕ, ◌≡◌, Bool, true, not, cond, ◌&&◌, List, eqb, ltb, length, get_or, set, ◌+◌, ◌++◌, take, drop, replicate}
use Rattle.machine.specs.Sides.{Side, pci, addon}
use Rattle.machine.specs.State.{State, reset_state}
use Rattle.bank.specs.Bank.{state_in}
use Rattle.bank.specs.Places.{fifo_place, address_place, count_place, head_place, fill_place, right_place}
use Rattle.controller.specs.declared.Lane.{Lane}
use Rattle.bank.specs.declared.Bank.{Bank}
use Rattle.bank.specs.declared.LaneBank.{LaneBank}

-- 8 mailbox words, 8 places of the FIFO from PCI, 8 of the FIFO from the Add-On, 14 numbers
abbrev pub controller_words : ℕ
controller_words = 38

-- so many words from a place on
abbrev pub part : ℕ → ℕ → List ℕ → List ℕ
part at n words = take n (drop at words)

abbrev pub mail_in : List ℕ → List ℕ
mail_in words = part 0 8 words

abbrev pub pci_in : List ℕ → List ℕ
pci_in words = part 8 8 words

abbrev pub addon_in : List ℕ → List ℕ
addon_in words = part 16 8 words

-- the word at a place
abbrev pub number_in : List ℕ → ℕ → ℕ
number_in words at = get_or words at 0

-- a right is 1, and none is 0
abbrev pub one_if : Bool → ℕ
one_if b = cond b 1 0

abbrev pub is_right : ℕ → Bool
is_right n = not (eqb n 0)

-- the numbers of the lane that a side feeds
abbrev pub lane_by : Side → (ℕ → ℕ) → LaneBank
lane_by side n =
    record {
      address = n (address_place side);
      count = record { 0 = n (count_place side) };
      head = n (head_place side);
      fill = record { 0 = n (fill_place side) };
      right = is_right (n (right_place side));
    }

-- From place 24 on: the marks, INTCSR, MCSR, AINT; of the lane from PCI the address, the count, the place of the FIFO's front and its fill; of the lane from the
-- Add-On the same; whether read cycles, and whether write cycles, have the right of a burst.
abbrev pub bank_by : (ℕ → ℕ) → Bank
bank_by n =
    record {
      marks = n 24;
      intcsr = n 25;
      mcsr = n 26;
      aint = n 27;
      from_pci = lane_by pci n;
      from_addon = lane_by addon n;
    }

-- words with eight others from a place on
abbrev pub with_run : ℕ → List ℕ → List ℕ → List ℕ
with_run at run words = take at words ++ run ++ drop (at + 8) words

-- words with those of a lane in place of the ones that stood there
abbrev pub with_lane : Side → Lane → List ℕ → List ℕ
with_lane side l words =
    set (set (set (set (set (with_run (fifo_place side) l.fifo.words words) (address_place side) l.address) (count_place side) l.count.0) (head_place side) l.fifo.head) (fill_place side) l.fifo.fill.0)
    (right_place side) (one_if l.right)

abbrev pub bank_in : List ℕ → Bank
bank_in words = bank_by (number_in words)

-- the state that words stand for
abbrev pub state_of_words : List ℕ → State
state_of_words words = state_in (bank_in words) (mail_in words) (pci_in words) (addon_in words)

-- either right is 0 or 1
abbrev pub rights_by : (ℕ → ℕ) → Bool
rights_by n = ltb (n 36) 2 && ltb (n 37) 2

abbrev pub has_rights : List ℕ → Bool
has_rights words = rights_by (number_in words)

-- the words stand for a controller, in form or not
unfoldable pub is_controller : List ℕ → Bool
is_controller words = eqb (length words) controller_words && has_rights words

-- `zeros_are_reset`: zeros stand for the controller after a reset
abbrev pub ZerosAreReset : Type 0
ZerosAreReset = (is_controller (replicate controller_words 0) ≡ true) × (state_of_words (replicate controller_words 0) ≡ reset_state)
