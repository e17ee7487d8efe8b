-- Mailboxes: who fills and who empties a byte, and the eight words and thirty-two marks after a done step that is no reset.
-- Enables of 0 touch no byte.
use Rattle.std.specs.Prelude.{ℕ, ◌*◌, ◌%◌, ◌^◌, Bool, cond, ◌&&◌, List, get_or, set}
use Rattle.std.specs.Int.Bits.{bit_and, bit_xor}
use Rattle.machine.specs.Words.{merged}
use Rattle.machine.specs.Offsets.{is_mailbox, mailbox, writer, reader}
use Rattle.machine.specs.Access.{Access, is_read_by, is_write_by}
use Rattle.machine.specs.Commands.{clears_marks}

-- Outgoing mailboxes have the status bits 15 to 0, incoming ones 31 to 16, mailbox 1 byte 0 lowest:
-- so byte i of the mailbox at an offset has bit offset + i. These are the bits of its enabled bytes.
unfoldable pub marks_at : ℕ → ℕ → ℕ
marks_at offset enables = enables % 16 * 2 ^ offset

-- the owner writes the mailbox; the side that does not own it reads it
abbrev pub fills : Access → Bool
fills x = is_write_by (writer x.offset) x.kind && is_mailbox x.offset

abbrev pub takes : Access → Bool
takes x = is_read_by (reader x.offset) x.kind && is_mailbox x.offset

-- Ask 2, the marks that an access changes, as bits of offset 34: an owner's write those of its enabled bytes that were empty, the other
-- side's read those that were full; any other, the owner's own read too, none
unfoldable pub changes : Access → ℕ → ℕ
changes x marks =
    let at = marks_at x.offset x.enables in
    cond (fills x) (bit_and at (bit_xor at marks)) (cond (takes x) (bit_and at marks) 0)

-- MCSR 27 leaves no mark; any other step turns those that it changes
unfoldable pub marks_after : Access → ℕ → ℕ
marks_after x marks = cond (clears_marks x) 0 (bit_xor marks (changes x marks))

-- an owner's write stores each enabled byte; a byte stays when it is read, so an empty one reads as last stored
unfoldable pub mail_after : Access → List ℕ → List ℕ
mail_after x mail =
    let at = mailbox x.offset in
    cond (fills x) (set mail at (merged (get_or mail at 0) x.value x.enables)) mail
