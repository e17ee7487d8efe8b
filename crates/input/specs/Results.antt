-- What the functions that read an input promise, with room for the log and without.
use Rattle.std.specs.Prelude.{ℕ, Result, Ok, ◌+◌, ◌≤◌, ◌≡◌, List, true, cond, length, drop}
use Rattle.machine.specs.State.{State}
use Rattle.controller.specs.Controller.{state_of}
use Rattle.frame_log.specs.declared.NoRoom.{NoRoom}
use Rattle.lines.specs.Lines.{lines}
use Rattle.frame_log.specs.Results.{no_room, is_short, with_log, begun_of}
use Rattle.input.specs.declared.Reading.{Reading}
use Rattle.input.specs.declared.Reading.TheVariants.{FirstLine, Frames, Over}
use Rattle.input.specs.declared.Input.{Input}
use Rattle.input.specs.declared.FeedResult.{FeedResult}
use Rattle.input.specs.declared.FinishResult.{FinishResult}
use Rattle.input.specs.declared.Passed.{Passed}
use Rattle.input.specs.Input.{passing, InputOutcome, fed_input, ended_input}

-- the bytes of the set line are passed
pub record PassedBy (reading : Reading) (piece : List ℕ) (r : Passed) : Type 0 where
  pub within : r.next ≤ length piece
  pub passes : passing reading piece ≡ record { reading = r.reading; rest = drop r.next piece }

-- `passed_unique`: two results that meet this are equal
abbrev pub PassedUnique : Type 0
PassedUnique = (reading : Reading) (piece : List ℕ) (r q : Passed) → PassedBy reading piece r → PassedBy reading piece q → r ≡ q

-- reading, state, memory, the line that has not ended and the output afterwards, and what is answered
pub record InputRun : Type 0 where
  pub reading : Reading
  pub state : State
  pub memory : List ℕ
  pub begun : List ℕ
  pub out : List ℕ
  pub log : Result ℕ NoRoom

-- with 41 bytes for each of so many lines what is left is left; with fewer nothing is done, and no byte is written
unfoldable pub with_room : ℕ → InputRun → InputOutcome → InputRun
with_room most before l =
    cond (is_short most before.out)
    before
    (record { reading = l.reading; state = l.state; memory = l.memory; begun = l.begun; out = with_log l.log before.out; log = Ok (length l.log) })

-- an input, and an output, as they are
unfoldable pub as_it_is : Input → List ℕ → List ℕ → InputRun
as_it_is i memory out = record { reading = i.reading; state = state_of i.stream.controller; memory = memory; begun = begun_of i.stream; out = out; log = no_room }

-- what `feed` and `finish` leave
abbrev pub left_by : FeedResult → List ℕ → List ℕ → InputRun
left_by r memory out = record { reading = r.input.reading; state = state_of r.input.stream.controller; memory = memory; begun = begun_of r.input.stream; out = out; log = r.log }

abbrev pub left_at_end : Input → FinishResult → List ℕ → List ℕ → InputRun
left_at_end i r memory out = record { reading = r.reading; state = state_of r.controller; memory = memory; begun = begun_of i.stream; out = out; log = r.log }

-- What `feed` promises: a piece may end a line at each byte, and a refusal is one line more. Without room the input comes back to the letter.
pub record FeedPromised (i : Input) (start : ℕ) (memory piece out : List ℕ) (r : FeedResult) (memory' out' : List ℕ) : Type 0 where
  pub fed : left_by r memory' out' ≡ with_room (length piece + 1) (as_it_is i memory out) (fed_input i.reading (state_of i.stream.controller) start memory (begun_of i.stream) piece)
  pub refused : is_short (length piece + 1) out ≡ true → r.input ≡ i

-- the lines that the end of the input may answer: a refusal, or the line that has not ended
unfoldable pub lines_left : Reading → List ℕ → ℕ
lines_left (FirstLine line) begun = 1
lines_left (Frames set) begun = length (lines begun)
lines_left Over begun = 0

-- what `finish` promises; without room the controller comes back to the letter
pub record FinishPromised (i : Input) (start : ℕ) (memory out : List ℕ) (r : FinishResult) (memory' out' : List ℕ) : Type 0 where
  pub ended :
      left_at_end i r memory' out'
      ≡ with_room (lines_left i.reading (begun_of i.stream)) (as_it_is i memory out) (ended_input i.reading (state_of i.stream.controller) start memory (begun_of i.stream))
  pub refused : is_short (lines_left i.reading (begun_of i.stream)) out ≡ true → r.controller ≡ i.stream.controller

-- `input_feed_unique`, `input_finish_unique`: two results that meet one contract are the same, FIFOs by the words that they hold; without room to the letter
abbrev pub InputFeedUnique : Type 0
InputFeedUnique =
    (i : Input) (start : ℕ) (memory piece out : List ℕ) (r q : FeedResult) (memory' memory'' out' out'' : List ℕ)
    → FeedPromised i start memory piece out r memory' out' → FeedPromised i start memory piece out q memory'' out''
    → (left_by r memory' out' ≡ left_by q memory'' out'') × (is_short (length piece + 1) out ≡ true → r.input ≡ q.input)

abbrev pub InputFinishUnique : Type 0
InputFinishUnique =
    (i : Input) (start : ℕ) (memory out : List ℕ) (r q : FinishResult) (memory' memory'' out' out'' : List ℕ)
    → FinishPromised i start memory out r memory' out' → FinishPromised i start memory out q memory'' out''
    → (left_at_end i r memory' out' ≡ left_at_end i q memory'' out'') × (is_short (lines_left i.reading (begun_of i.stream)) out ≡ true → r.controller ≡ q.controller)
