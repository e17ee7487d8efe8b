-- What a program that takes its input in pieces has been given.
use Rattle.std.specs.Prelude.{◌≡◌, ℕ, List, IfSome}
use Rattle.std.specs.List.{FoldsTo, concat}
use Rattle.std.specs.declared.option.Option.{Option}

-- a program came from one state to another by pieces, in order, and by the end of the input; where the input's bytes are known, the
-- pieces are all of them
pub record RunsOver {P : Type 0} (fed : P → List ℕ → P → Type 0) (ended : P → P → Type 0) (known : Option (List ℕ)) (first last : P) : Type 0 where
  pub pieces : List (List ℕ)
  pub before_end : P
  pub calls : FoldsTo fed first pieces before_end
  pub end : ended before_end last
  pub whole : IfSome known (λ xs. concat pieces ≡ xs)
