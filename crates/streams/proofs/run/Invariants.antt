use Rattle.std.proofs.Common.{ℕ, List}
use Rattle.std.specs.List.{FoldsTo, concat}
use Rattle.std.specs.Io.KnownBytes.{Consumes}
use Rattle.streams.proofs.run.Given as goal

abbrev pub invariant-loop : goal.invariant-loop
invariant-loop g l =
    (pieces : List (List ℕ))
    × FoldsTo g.P.Program.fed l.fn.program pieces l.program
    × Consumes (g.I.Read.remaining l.fn.reader) (g.I.Read.remaining l.reader) (concat pieces)
