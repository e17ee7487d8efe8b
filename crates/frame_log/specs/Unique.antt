-- Two results that meet one contract are the same: state (FIFOs by the words they hold), memory, output and answer, and where there is no room
-- the controller or stream to the letter.
use Rattle.std.specs.Prelude.{◌≡◌, ℕ, true, List, length}
use Rattle.controller.specs.Controller.{state_of}
use Rattle.controller.specs.declared.Controller.{Controller}
use Rattle.lines.specs.Lines.{lines}
use Rattle.frame_log.specs.declared.Counted.{Counted}
use Rattle.frame_log.specs.declared.Ran.{Ran}
use Rattle.frame_log.specs.declared.Stream.{Stream}
use Rattle.frame_log.specs.declared.Streamed.{Streamed}
use Rattle.frame_log.specs.Results.{is_short, RunPromised, begun_of, FeedPromised}
use Rattle.frame_log.specs.Counts.{count_of, end_count_of, counted_outcome}

-- `run_unique`, for `run` and `finish`
pub record SameRun (is_refused : Type 0) (r q : Ran) (memory memory' out out' : List ℕ) : Type 0 where
  pub state : state_of r.controller ≡ state_of q.controller
  pub log : r.log ≡ q.log
  pub stored : memory ≡ memory'
  pub written : out ≡ out'
  pub refused : is_refused → r.controller ≡ q.controller

abbrev pub RunUnique : Type 0
RunUnique =
    (set : ℕ) (c : Controller) (start : ℕ) (memory text out : List ℕ) (r q : Ran) (memory' memory'' out' out'' : List ℕ)
    → RunPromised set c start memory text out r memory' out' → RunPromised set c start memory text out q memory'' out''
    → SameRun (is_short (length (lines text)) out ≡ true) r q memory' memory'' out' out''

-- `feed_unique`
pub record SameFeed (is_refused : Type 0) (r q : Streamed) (memory memory' out out' : List ℕ) : Type 0 where
  pub state : state_of r.stream.controller ≡ state_of q.stream.controller
  pub begun : begun_of r.stream ≡ begun_of q.stream
  pub log : r.log ≡ q.log
  pub stored : memory ≡ memory'
  pub written : out ≡ out'
  pub refused : is_refused → r.stream ≡ q.stream

abbrev pub FeedUnique : Type 0
FeedUnique =
    (set : ℕ) (s : Stream) (start : ℕ) (memory piece out : List ℕ) (r q : Streamed) (memory' memory'' out' out'' : List ℕ)
    → FeedPromised set s start memory piece out r memory' out' → FeedPromised set s start memory piece out q memory'' out''
    → SameFeed (is_short (length piece) out ≡ true) r q memory' memory'' out' out''

-- `log_count_unique`, `log_count_end_unique`, for `count` and `count_end`: state, memory, the bytes carried on and the two numbers are the same
abbrev pub LogCountUnique : Type 0
LogCountUnique =
    (s : Stream) (start : ℕ) (memory piece : List ℕ) (writes reads : ℕ) (r q : Counted) (memory' memory'' : List ℕ)
    → counted_outcome r memory' ≡ count_of (state_of s.controller) start memory (begun_of s) piece writes reads
    → counted_outcome q memory'' ≡ count_of (state_of s.controller) start memory (begun_of s) piece writes reads
    → counted_outcome r memory' ≡ counted_outcome q memory''

abbrev pub LogCountEndUnique : Type 0
LogCountEndUnique =
    (s : Stream) (start : ℕ) (memory : List ℕ) (writes reads : ℕ) (r q : Counted) (memory' memory'' : List ℕ)
    → counted_outcome r memory' ≡ end_count_of (state_of s.controller) start memory (begun_of s) writes reads
    → counted_outcome q memory'' ≡ end_count_of (state_of s.controller) start memory (begun_of s) writes reads
    → counted_outcome r memory' ≡ counted_outcome q memory''
