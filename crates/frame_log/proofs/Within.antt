-- What is answered as written is within the output.
use Rattle.std.proofs.Common.{◌≡◌, ℕ, true, List, ◌++◌, Ok, length, drop, arith, length-append, le-leb}
use Rattle.frame_log.specs.Results.{with_log, is_within}

pub within : (log out : List ℕ) → is_within (Ok (length log)) (with_log log out) ≡ true
unfolding is_within with_log
within log out = le-leb (length log) (length (log ++ drop (length log) out)) (rw length-append (omega arith))
