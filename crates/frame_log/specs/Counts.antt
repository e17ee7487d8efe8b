-- The done cycles of a text, counted (document 02, Ask 8), of a text that comes in pieces.
use Rattle.std.specs.Prelude.{◌≡◌, ℕ, Option, Some, None, ◌+◌, ◌%◌, ◌^◌, Bool, false, cond, ◌&&◌, List, [], ◌∷◌, ◌++◌, ◌==◌}
use Rattle.machine.specs.State.{State}
use Rattle.machine.specs.Event.{Event}
use Rattle.machine.specs.Run.{RunOutcome, run}
use Rattle.machine.specs.declared.Step.{Step}
use Rattle.machine.specs.declared.Answer.{Answer}
use Rattle.controller.specs.Controller.{state_of}
use Rattle.lines.specs.Lines.{lines, lines_from}
use Rattle.frame_log.specs.declared.Counted.{Counted}
use Rattle.frame_log.specs.Log.{frames_in, piece_outcome}
use Rattle.frame_log.specs.Promises.{joined, framed, steps_in}
use Rattle.frame_log.specs.Results.{begun_of}

-- the steps of frames, and a frame with its answer
abbrev pub steps_of : List (Option Step) → List Step
steps_of [] = []
steps_of (f ∷ fs) = framed f ++ steps_of fs

abbrev pub events_of : Option Step → Answer → List Event
events_of (Some s) a = record { step = s; answer = a } ∷ []
events_of None a = []

-- a cycle of a kind that answered done
abbrev pub is_done_cycle : ℕ → Option Step → Answer → Bool
is_done_cycle kind (Some s) a = a.code == 0 && s.kind == kind
is_done_cycle kind None a = false

-- how many such cycles there are among events
unfoldable pub cycles_of : ℕ → List Event → ℕ
cycles_of kind [] = 0
cycles_of kind (e ∷ es) = cond (is_done_cycle kind (Some e.step) e.answer) 1 0 + cycles_of kind es

-- the run of the steps of the lines that end in a piece, after the bytes `begun`
abbrev pub piece_run : State → ℕ → List ℕ → List ℕ → List ℕ → RunOutcome
piece_run st start memory begun piece = run st start memory (steps_of (frames_in begun piece))

-- what counting a piece leaves: the stream, by state, memory and the carried bytes, and how many cycles of each kind are done, modulo 2^32
pub record CountOutcome : Type 0 where
  pub state : State
  pub memory : List ℕ
  pub begun : List ℕ
  pub writes : ℕ
  pub reads : ℕ

-- after a run, with the cycles counted before it
abbrev pub count_after : RunOutcome → List ℕ → ℕ → ℕ → CountOutcome
count_after r begun writes reads =
    record { state = r.state; memory = r.memory; begun = begun; writes = (writes + cycles_of 4 r.events) % 2 ^ 32; reads = (reads + cycles_of 5 r.events) % 2 ^ 32 }

-- a piece
unfoldable pub count_of : State → ℕ → List ℕ → List ℕ → List ℕ → ℕ → ℕ → CountOutcome
count_of st start memory begun piece writes reads = count_after (piece_run st start memory begun piece) (piece_outcome st start memory begun piece).begun writes reads

-- at the end of the text, which ends a line that has begun
unfoldable pub end_count_of : State → ℕ → List ℕ → List ℕ → ℕ → ℕ → CountOutcome
end_count_of st start memory begun writes reads = count_after (run st start memory (steps_in (lines_from begun []))) [] writes reads

-- the outcome of a counted piece
abbrev pub counted_outcome : Counted → List ℕ → CountOutcome
counted_outcome r memory = record { state = state_of r.stream.controller; memory = memory; begun = begun_of r.stream; writes = r.cycles.writes; reads = r.cycles.reads }

-- ---- a text

-- what counting pieces leaves: each is counted from what the one before left, and at the end what has begun
unfoldable pub pieces_count : State → ℕ → List ℕ → List ℕ → List (List ℕ) → ℕ → ℕ → CountOutcome
pieces_count st start memory begun [] writes reads = end_count_of st start memory begun writes reads
pieces_count st start memory begun (p ∷ more) writes reads =
    let c = count_of st start memory begun p writes reads in pieces_count c.state start c.memory c.begun more c.writes c.reads

-- `counts_joined`: wherever the pieces of a text end, the two numbers are those of the done cycles in the machine's run over the text's steps, modulo 2^32
abbrev pub CountsJoined : Type 0
CountsJoined =
    (st : State) (start : ℕ) (memory : List ℕ) (pieces : List (List ℕ))
    → pieces_count st start memory [] pieces 0 0 ≡ count_after (run st start memory (steps_in (lines (joined pieces)))) [] 0 0
