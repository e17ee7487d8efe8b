-- Demand 3: what its three accounts count, and what a mailbox byte holds. Everything here goes by the numbers of steps and answers alone;
-- no rule of the machine and no part of its state is used.
use Rattle.std.specs.Prelude.{ℕ, ◌+◌, ◌*◌, ◌/◌, ◌%◌, ◌^◌, ◌≡◌, Bool, true, false, cond, ◌&&◌, ◌||◌, List, [], ◌∷◌, map, eqb, ltb}
use Rattle.machine.specs.Words.{bit}
use Rattle.machine.specs.Sides.{Side, pci, addon}
use Rattle.machine.specs.Event.{Event}
use Rattle.promises.specs.Queues.{Move, Tally, fresh, tallied_from, accepted}
use Rattle.machine.specs.declared.Step.{Step}

abbrev pub is_done : Event → Bool
is_done e = eqb e.answer.code 0

abbrev pub is_kind : ℕ → Event → Bool
is_kind kind e = eqb e.step.kind kind

abbrev pub is_at : ℕ → ℕ → Event → Bool
is_at kind offset e = is_kind kind e && eqb e.step.offset offset

-- a write of a kind to offset 3C with byte 3 enabled and a one in bit k
abbrev pub command : ℕ → ℕ → Event → Bool
command kind k e = is_at kind 0x3C e && bit e.step.enables 3 && bit e.step.value k

-- byte i of a word, and a word of four bytes
abbrev pub byte_of : ℕ → ℕ → ℕ
byte_of i word = word / 2 ^ (8 * i) % 2 ^ 8

abbrev pub word_of : (ℕ → ℕ) → ℕ
word_of byte = byte 0 + byte 1 * 2 ^ 8 + byte 2 * 2 ^ 16 + byte 3 * 2 ^ 24

-- a word after a write: the enabled bytes of the data, the others its own
abbrev pub written_over : ℕ → Event → ℕ
written_over old e = word_of (λ i. cond (bit e.step.enables i) (byte_of i e.step.value) (byte_of i old))

-- ---- the FIFOs, each named by the side that feeds it

-- what empties it, if done: a reset, a PCI write to MCSR with a one in bit 25 (PCI-to-Add-On) or 26 (Add-On-to-PCI), or an Add-On write to AGCSTS
-- with a one in 26 (PCI-to-Add-On) or 25 (Add-On-to-PCI)
abbrev pub clears : Side → Event → Bool
clears pci e = is_kind 6 e || (command 1 25 e || command 3 26 e)
clears addon e = is_kind 6 e || (command 1 26 e || command 3 25 e)

-- the words let in, if done: the data of a port write, and what a read cycle answers
abbrev pub words_in : Side → Event → List ℕ
words_in pci e = cond (is_kind 5 e) (e.answer.value ∷ []) (cond (is_at 1 0x20 e) (e.step.value ∷ []) [])
words_in addon e = cond (is_at 3 0x20 e) (e.step.value ∷ []) []

-- the words handed out, if done: what a port read answers, and what a write cycle answers
abbrev pub words_out : Side → Event → List ℕ
words_out pci e = cond (is_at 2 0x20 e) (e.answer.value ∷ []) []
words_out addon e = cond (is_kind 4 e || is_at 0 0x20 e) (e.answer.value ∷ []) []

-- what an event is to the FIFO: a move of a queue of words; a refused one moves nothing
abbrev pub move_of : Side → Event → Move ℕ
move_of side e = record { clears = is_done e && clears side e; let_in = cond (is_done e) (words_in side e) []; handed_out = cond (is_done e) (words_out side e) [] }

abbrev pub moves_of : Side → List Event → List (Move ℕ)
moves_of side es = map (move_of side) es

-- the books of the FIFO: the words let in and the words handed out since it was last emptied by a clear or reset
abbrev pub tally : Side → List Event → Tally ℕ
tally side es = tallied_from fresh (moves_of side es)

-- ---- the mailboxes: byte k of the status is byte k % 4 of the mailbox at offset k / 4 * 4, outgoing if k is below 16

-- what an event is to a mailbox byte
pub data ByteEvent : Type 0 where
  write read clear none : ByteEvent

-- to that byte, enabled
abbrev pub to_byte : ℕ → Event → Bool
to_byte k e = eqb e.step.offset (k / 4 * 4) && bit e.step.enables (k % 4)

-- its owner's write (PCI's if outgoing, else the Add-On's), and the other side's read
abbrev pub owner_writes : ℕ → Event → Bool
owner_writes k e = is_kind (cond (ltb k 16) 1 3) e && to_byte k e

abbrev pub other_reads : ℕ → Event → Bool
other_reads k e = is_kind (cond (ltb k 16) 2 0) e && to_byte k e

-- a reset, or a mailbox clear by bit 27 of MCSR or of AGCSTS
abbrev pub clears_bytes : Event → Bool
clears_bytes e = is_kind 6 e || (command 1 27 e || command 3 27 e)

abbrev pub touch : ℕ → Event → ByteEvent
touch k e = cond (is_done e) (cond (clears_bytes e) clear (cond (owner_writes k e) write (cond (other_reads k e) read none))) none

-- the later of two, if it is any
abbrev pub later : ByteEvent → ByteEvent → ByteEvent
later write earlier = write
later read earlier = read
later clear earlier = clear
later none earlier = earlier

-- the latest of all that are done to byte k
abbrev pub latest : ℕ → List Event → ByteEvent
latest k [] = none
latest k (e ∷ es) = later (latest k es) (touch k e)

abbrev pub was_write : ByteEvent → Bool
was_write write = true
was_write read = false
was_write clear = false
was_write none = false

-- ---- what the mailbox bytes hold

-- mailbox byte k after an event: a done reset makes it zero, its owner's done write stores that byte of its data, nothing else changes it
abbrev pub byte_after : ℕ → ℕ → Event → ℕ
byte_after k old e = cond (is_done e) (cond (is_kind 6 e) 0 (cond (owner_writes k e) (byte_of (k % 4) e.step.value) old)) old

abbrev pub byte_from : ℕ → ℕ → List Event → ℕ
byte_from k old [] = old
byte_from k old (e ∷ es) = byte_from k (byte_after k old e) es

-- the byte last stored since the last reset, zero if there is none
abbrev pub last_stored : ℕ → List Event → ℕ
last_stored k es = byte_from k 0 es

-- ---- two runs

abbrev pub is_port_write : Step → Bool
is_port_write s = eqb s.offset 0x20 && (eqb s.kind 1 || eqb s.kind 3)

-- two steps that differ at most in the data of a FIFO port write
pub record AlikeButPortData (s t : Step) : Type 0 where
  pub kind : s.kind ≡ t.kind
  pub offset : s.offset ≡ t.offset
  pub enables : s.enables ≡ t.enables
  pub value : is_port_write s ≡ false → s.value ≡ t.value

pub data AllAlike : List Step → List Step → Type 0 where
  no_steps : AllAlike [] []
  one_more : {s t : Step} {ss ts : List Step} → AlikeButPortData s t → AllAlike ss ts → AllAlike (s ∷ ss) (t ∷ ts)

-- every event has a property
abbrev pub Every : (Event → Type 0) → List Event → Type 0
Every P [] = Unit {0}
Every P (e ∷ es) = P e × Every P es

-- no clear of that FIFO and no reset is done
abbrev pub NoClear : Side → List Event → Type 0
NoClear side es = Every (λ (e : Event). (is_done e && clears side e) ≡ false) es

-- event by event, the words accepted into that FIFO agree: those let in, none by a refused one
abbrev pub SameAccepted : Side → List Event → List Event → Type 0
SameAccepted side es fs = accepted (moves_of side es) ≡ accepted (moves_of side fs)
