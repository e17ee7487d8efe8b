-- The C call (document 01, "Frames and the log"; document 02, Ask 1): what it returns and leaves in the output.
use Rattle.std.specs.Prelude.{ℕ, Result, Ok, Err, ◌*◌, ◌≤◌, ◌<◌, ◌≡◌, List, [], ◌++◌, Bool, true, false, cond, ℤ, pos, negsuc, length, drop, ltb}
use Rattle.machine.specs.State.{reset_state}
use Rattle.machine.specs.Window.{zero_words}
use Rattle.frame_log.specs.declared.NoRoom.{NoRoom}
use Rattle.lines.specs.Lines.{lines}
use Rattle.logline.specs.Labels.{is_set}
use Rattle.frame_log.specs.Results.{TextRun, text_run}
use Rattle.frame_log.specs.Promises.{program_log}

-- a run from reset, with the log program's memory
unfoldable pub from_reset : ℕ → List ℕ → List ℕ → TextRun
from_reset set input output = text_run set reset_state 0 zero_words input output

-- the longest input has 1,048,576 bytes
unfoldable pub is_too_long : List ℕ → Bool
is_too_long input = ltb 1_048_576 (length input)

-- the number of each case of the run's answer: the log's bytes, or -1, which is `negsuc 0`
unfoldable pub number_of : Result ℕ NoRoom → ℤ
number_of (Ok n) = pos n
number_of (Err r) = negsuc 0

-- -2, which is `negsuc 1`, comes first; then -3, which is `negsuc 2`, for a number that is no label set
unfoldable pub result_of : ℕ → List ℕ → List ℕ → ℤ
result_of set input output = cond (is_too_long input) (negsuc 1) (cond (is_set set) (number_of (from_reset set input output).log) (negsuc 2))

-- no byte is written where it refuses, and none past the log
unfoldable pub output_of : ℕ → List ℕ → List ℕ → List ℕ
output_of set input output = cond (is_too_long input) output (cond (is_set set) (from_reset set input output).out output)

-- what `s5933_log` promises of its result and of the output at exit
pub record CallPromised (set : ℕ) (input output : List ℕ) (r : ℤ) (after : List ℕ) : Type 0 where
  pub result : r ≡ result_of set input output
  pub written : after ≡ output_of set input output

-- `call_unique`: two results that meet it are the same, and so are the outputs
abbrev pub CallUnique : Type 0
CallUnique = (set : ℕ) (input output : List ℕ) (r q : ℤ) (after also : List ℕ) → CallPromised set input output r after → CallPromised set input output q also → (r ≡ q) × (after ≡ also)

-- `empty_call`: empty input gives 0 under a set, and no byte is written
abbrev pub EmptyCall : Type 0
EmptyCall = (set : ℕ) (output : List ℕ) → is_set set ≡ true → (result_of set [] output ≡ pos 0) × (output_of set [] output ≡ output)

-- in the documents' numbers; -3 is `negsuc 2`, -2 is `negsuc 1`, -1 is `negsuc 0`
pub record CallByNumbers (set : ℕ) (input output : List ℕ) (r : ℤ) (after : List ℕ) : Type 0 where
  -- an input above 1,048,576 bytes: -2, and the output is as it was
  pub too_long : 1_048_576 < length input → (r ≡ negsuc 1) × (after ≡ output)
  -- any other, under a number that is no label set: -3, and the output is as it was
  pub unknown_set : length input ≤ 1_048_576 → is_set set ≡ false → (r ≡ negsuc 2) × (after ≡ output)
  -- under a set, with an output shorter than 41 bytes a line: -1, and the output is as it was
  pub no_room : length input ≤ 1_048_576 → is_set set ≡ true → length output < 41 * length (lines input) → (r ≡ negsuc 0) × (after ≡ output)
  -- else the number of bytes of the log: the output begins with the log program's log, every byte past it is as it was, and there are no more and no fewer
  pub logged :
      length input ≤ 1_048_576 → is_set set ≡ true → 41 * length (lines input) ≤ length output
      → (r ≡ pos (length (program_log set input))) × (after ≡ program_log set input ++ drop (length (program_log set input)) output) × (length after ≡ length output)

-- `call_rule`: whatever input and output are, that is what `s5933_log` promises
abbrev pub CallRule : Type 0
CallRule = (set : ℕ) (input output : List ℕ) (r : ℤ) (after : List ℕ) → CallPromised set input output r after → CallByNumbers set input output r after
