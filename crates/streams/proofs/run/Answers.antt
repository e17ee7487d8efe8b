use Rattle.std.proofs.Common.{ℕ, ◌≡◌, List, [], ◌∷◌, ◌++◌, None, Some, Ok, take, rules, append_assoc, arith}
use Rattle.std.proofs.lemmas.Grind.{common_steps}
use Rattle.std.proofs.lemmas.List.{append-nil}
use Rattle.std.specs.declared.option.Option.{Option}
use Rattle.std.specs.List.{concat}
use Rattle.std.specs.Io.KnownBytes.{Consumes}
use Rattle.std.proofs.lemmas.Fn.{FoldsTo-push}
use Rattle.std.proofs.lemmas.List.Folds.{concat-append}
use Rattle.streams.proofs.run.Goals as goal

-- bytes that are taken after others are taken with them, as a piece
consumes_more : (first mid last : Option (List ℕ)) (pieces : List (List ℕ)) (piece : List ℕ) → Consumes first mid (concat pieces) → Consumes mid last piece → Consumes first last (concat (pieces ++ (piece ∷ [])))
consumes_more None mid last pieces piece p q = tt
consumes_more (Some xs) None last pieces piece p q = absurd p
consumes_more (Some xs) (Some ys) None pieces piece p q = q
consumes_more (Some xs) (Some ys) (Some zs) pieces piece p q = grind (arith, common_steps, concat-append pieces (piece ∷ []), append_assoc (concat pieces) piece zs, append-nil piece)

pub loop-preserved : goal.loop-preserved
loop-preserved g c =
    let i = c.loop.invariant in
    let read : c.read.result ≡ Ok c.in_ok-n.n = search rules in
    let piece = take c.in_ok-n.n c.read.new.buf in (
      i.0 ++ (piece ∷ []),
      FoldsTo-push g.P.Program.fed _ i.0 _ piece _ i.1 c.in_ok-feed.ensures,
      consumes_more _ _ _ i.0 piece i.2 (rw read at c.read.ensures.bytes).0,
    )
