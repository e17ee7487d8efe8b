use Rattle.std.proofs.Common.{◌≡◌, ◌+◌, ◌*◌, ◌%◌, take}
use Rattle.records.specs.Window.{window_bytes}
use Rattle.records.specs.Record.{total, hexes}
use Rattle.output.specs.Wrote.{Wrote}
use Rattle.hex_export.proofs.put_words.Given as goal

abbrev pub invariant-loop-w : goal.invariant-loop-w
invariant-loop-w l =
    (l.p ≡ l.at + 8 * l.w-index) × (l.sum ≡ total (window_bytes (take l.w-index l.words)) % 256)
    × Wrote l.initial.out l.at (hexes (window_bytes (take l.w-index l.words))) l.p l.out
