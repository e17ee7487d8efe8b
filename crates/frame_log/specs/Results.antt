-- What the functions that write a log leave, with room for it and without.
use Rattle.std.specs.Prelude.{◌≡◌, ℕ, ◌*◌, ◌<◌, ◌≤◌, Bool, true, cond, Option, Some, None, Result, Ok, Err, List, ◌∷◌, ◌++◌, length, take, drop, nat_le, nat_lt}
use Rattle.machine.specs.State.{State}
use Rattle.machine.specs.declared.Step.{Step}
use Rattle.controller.specs.Controller.{state_of}
use Rattle.controller.specs.declared.Controller.{Controller}
use Rattle.lines.specs.Lines.{lines}
use Rattle.frame.specs.Frame.{framed_outcome}
use Rattle.logline.specs.LogLine.{line_room}
use Rattle.output.specs.Wrote.{Wrote}
use Rattle.frame_log.specs.declared.NoRoom.{NoRoom}
use Rattle.frame_log.specs.declared.progress.Progress.{Progress}
use Rattle.frame_log.specs.declared.Ran.{Ran}
use Rattle.frame_log.specs.declared.Stream.{Stream}
use Rattle.frame_log.specs.declared.Streamed.{Streamed}
use Rattle.frame_log.specs.declared.Streaming.{Streaming}
use Rattle.frame_log.specs.Log.{TextOutcome, PieceOutcome, log_of, text_outcome, answering, piece_outcome, frames_in}

-- the output is too short for so many log lines of the greatest length
unfoldable pub is_short : ℕ → List ℕ → Bool
is_short most out = nat_lt (length out) (line_room * most)

-- a log stands at the start of the output, and the bytes past it are as they were
unfoldable pub with_log : List ℕ → List ℕ → List ℕ
with_log log out = log ++ drop (length log) out

-- too little room
abbrev pub no_room : Result ℕ NoRoom
no_room = Err (record {})

-- a number of bytes that is answered is one that the output has
unfoldable pub is_within : Result ℕ NoRoom → List ℕ → Bool
is_within (Ok n) out = nat_le n (length out)
is_within (Err r) out = true

-- ---- a run

-- state, memory and output after a run, and what it answers
pub record TextRun : Type 0 where
  pub state : State
  pub memory : List ℕ
  pub out : List ℕ
  pub log : Result ℕ NoRoom

-- too little room is an answer of its own: nothing is done, and no byte is written
unfoldable pub text_run : ℕ → State → ℕ → List ℕ → List ℕ → List ℕ → TextRun
text_run set st start memory text out =
    let t = text_outcome st start memory text in
    let log = log_of set t.answers in
    cond (is_short (length (lines text)) out)
    (record { state = st; memory = memory; out = out; log = no_room })
    (record { state = t.state; memory = t.memory; out = with_log log out; log = Ok (length log) })

-- what `run` promises; without room the controller comes back to the letter
pub record RunPromised (set : ℕ) (c : Controller) (start : ℕ) (memory text out : List ℕ) (r : Ran) (memory' out' : List ℕ) : Type 0 where
  pub ran : record { state = state_of r.controller; memory = memory'; out = out'; log = r.log } ≡ text_run set (state_of c) start memory text out
  pub refused : is_short (length (lines text)) out ≡ true → r.controller ≡ c

-- ---- a piece

-- the carried bytes of the line that has not ended
unfoldable pub begun_of : Stream → List ℕ
begun_of s = take s.len s.bytes

pub record Piece : Type 0 where
  pub state : State
  pub memory : List ℕ
  pub begun : List ℕ
  pub out : List ℕ
  pub log : Result ℕ NoRoom

-- A piece may end a line at each byte, so it wants room for as many.
unfoldable pub piece_of : ℕ → State → ℕ → List ℕ → List ℕ → List ℕ → List ℕ → Piece
piece_of set st start memory begun piece out =
    let f = piece_outcome st start memory begun piece in
    let log = log_of set f.answers in
    cond (is_short (length piece) out)
    (record { state = st; memory = memory; begun = begun; out = out; log = no_room })
    (record { state = f.state; memory = f.memory; begun = f.begun; out = with_log log out; log = Ok (length log) })

-- what `feed` promises; without room the stream comes back to the letter
pub record FeedPromised (set : ℕ) (s : Stream) (start : ℕ) (memory piece out : List ℕ) (r : Streamed) (memory' out' : List ℕ) : Type 0 where
  pub fed : record { state = state_of r.stream.controller; memory = memory'; begun = begun_of r.stream; out = out'; log = r.log } ≡ piece_of set (state_of s.controller) start memory (begun_of s) piece out
  pub refused : is_short (length piece) out ≡ true → r.stream ≡ s

-- ---- inside: a piece with room for its log

-- the carried bytes at a place of a piece
abbrev pub begun_at : Progress → List ℕ
begun_at p = take p.len p.bytes

-- what is fed from there on: the answer to a line that has ended, then the rest of the piece after what is carried
abbrev pub fed_past : Option (Option Step) → Progress → List ℕ → State → ℕ → List ℕ → PieceOutcome
fed_past None q piece st start memory = piece_outcome st start memory (begun_at q) (drop q.at piece)
fed_past (Some said) q piece st start memory =
    let o = framed_outcome said st start memory in answering o.answer (piece_outcome o.state start o.memory (begun_at q) (drop q.at piece))

-- what lines say from there on
abbrev pub said_past : Option (Option Step) → Progress → List ℕ → List (Option Step)
said_past None q piece = frames_in (begun_at q) (drop q.at piece)
said_past (Some said) q piece = said ∷ frames_in (begun_at q) (drop q.at piece)

-- what tells of a line that has ended, or of none, goes on from the place that is left as from the place before
pub record Tells (p : Progress) (piece : List ℕ) (r : Option (Option Step)) (q : Progress) : Type 0 where
  pub fed : (st : State) (start : ℕ) (memory : List ℕ) → piece_outcome st start memory (begun_at p) (drop p.at piece) ≡ fed_past r q piece st start memory
  pub says : frames_in (begun_at p) (drop p.at piece) ≡ said_past r q piece

-- a turn takes a byte at least
pub record TurnPromised (p : Progress) (piece : List ℕ) (r : Option (Option Step)) (q : Progress) : Type 0 where
  pub above : p.at < q.at
  pub within : q.at ≤ length piece
  pub tells : Tells p piece r q

-- the place that is left: past the line that has ended; else the piece's end, or past it
abbrev pub moved : Option (Option Step) → ℕ → ℕ → ℕ → Type 0
moved None at next end = end ≤ next
moved (Some said) at next end = (at < next) × (next ≤ end)

pub record LinePromised (p : Progress) (piece : List ℕ) (r : Option (Option Step)) (q : Progress) : Type 0 where
  pub place : moved r p.at q.at (length piece)
  pub tells : Tells p piece r q

pub record PieceLogged (set : ℕ) (f : PieceOutcome) (r : Streaming) (memory' out : List ℕ) (at : ℕ) (out' : List ℕ) : Type 0 where
  pub state : state_of r.stream.controller ≡ f.state
  pub memory : memory' ≡ f.memory
  pub begun : begun_of r.stream ≡ f.begun
  pub log : Wrote out at (log_of set f.answers) r.next out'

pub record TextLogged (set : ℕ) (t : TextOutcome) (r : Streaming) (memory' out : List ℕ) (at : ℕ) (out' : List ℕ) : Type 0 where
  pub state : state_of r.stream.controller ≡ t.state
  pub memory : memory' ≡ t.memory
  pub log : Wrote out at (log_of set t.answers) r.next out'
