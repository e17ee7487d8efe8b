use Rattle.std.proofs.Common.{◌≡◌, ℕ, List, ◌++◌, ◌≤◌, ◌*◌, ◌-◌, ◌+◌, length, drop}
use Rattle.records.specs.Window.{window_bytes}
use Rattle.output.specs.Wrote.{Wrote}
use Rattle.hex_export.proofs.Texts.{rest_text}
use Rattle.hex_export.proofs.put_text.Given as goal

abbrev pub invariant-loop-i : goal.invariant-loop-i
invariant-loop-i l =
    (most : ℕ) × (done : List ℕ) × (l.i ≤ length l.memory) × (length (drop (4 * l.i) (window_bytes l.memory)) ≤ most)
    × Wrote l.initial.out l.initial.at done l.at l.out
    × (rest_text (length (window_bytes l.memory)) l.initial.upper (l.start + 0) (drop 0 (window_bytes l.memory)) ≡ done ++ rest_text most l.upper (l.start + 4 * l.i) (drop (4 * l.i) (window_bytes l.memory)))
    × (l.at + length (rest_text most l.upper (l.start + 4 * l.i) (drop (4 * l.i) (window_bytes l.memory))) ≤ length l.out)

abbrev pub decreases-loop-i : goal.decreases-loop-i
decreases-loop-i l = length l.memory - l.i
