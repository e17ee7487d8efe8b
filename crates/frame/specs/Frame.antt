-- What a line of text says: a step, or nothing.
use Rattle.std.specs.Prelude.{ℕ, List, Bool, Option, Some, None, cond, ◌&&◌, length, take, drop, get_or, eqb}
use Rattle.machine.specs.State.{State}
use Rattle.machine.specs.Step.{Outcome, step_of, not_aframe}
use Rattle.machine.specs.declared.Step.{Step}
use Rattle.lines.specs.Lines.{lf}
use Rattle.hex_digits.specs.Hex.{all_digits, number}

-- `count` bytes of a line, from a place on
abbrev pub part : ℕ → ℕ → List ℕ → List ℕ
part from count line = take count (drop from line)

-- Frames and the log: 13 digits, letters in upper case, and nothing else
unfoldable pub is_frame : List ℕ → Bool
is_frame line = eqb (length line) 13 && all_digits line

-- the parts, from the left: two digits of kind, two of offset, one of enables, eight of data
unfoldable pub step_in : List ℕ → Step
step_in line = record { kind = number (part 0 2 line); offset = number (part 2 2 line); enables = number (part 4 1 line); value = number (part 5 8 line) }

-- the reader's answer
unfoldable pub frame_of : List ℕ → Option Step
frame_of line = cond (is_frame line) (Some (step_in line)) None

-- the frame that bytes begin with, an LF behind it
unfoldable pub frame_in : List ℕ → Option Step
frame_in bytes = cond (eqb (get_or bytes 13 0) lf) (frame_of (take 13 bytes)) None

-- What each case of that answer stands for: a frame is a step; no frame (an empty line is none) leaves everything and answers 14.
unfoldable pub framed_outcome : Option Step → State → ℕ → List ℕ → Outcome
framed_outcome (Some s) st start memory = step_of st start memory s
framed_outcome None st start memory = record { state = st; memory = memory; answer = not_aframe st }
