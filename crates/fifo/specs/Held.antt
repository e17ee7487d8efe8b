-- FIFOs and memory cycles: a FIFO is the words in it, front first. What stands in its free places is no part of it.
use Rattle.std.specs.Prelude.{ℕ, List}
use Rattle.fifo.specs.Ring.{from}
use Rattle.fifo.specs.declared.Fifo.{Fifo}

-- the words that a FIFO holds, front first: as many as its fill says, also where that is above 8
unfoldable pub held : Fifo → List ℕ
held f = from 8 0 f.words f.head f.fill.0
