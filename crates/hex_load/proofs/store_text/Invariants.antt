use Rattle.std.proofs.Common.{ℕ, length}
use Rattle.records.specs.Window.{window_bytes}
use Rattle.hex_load.proofs.Texts.{ToStore}
use Rattle.hex_load.proofs.store_text.Given as goal

abbrev pub invariant-loop-rest : goal.invariant-loop-rest
invariant-loop-rest l = (g : ℕ) × ToStore l.span.start l.span.words l.upper g (window_bytes l.initial.memory) l.text (window_bytes l.memory) l.rest

abbrev pub decreases-loop-rest : goal.decreases-loop-rest
decreases-loop-rest l = length l.rest
