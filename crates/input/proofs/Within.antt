-- What is answered as written is within the output.
use Prim.Native.Nat.{ℕ}
use mathlib.Core.Path.{◌≡◌, refl, ap, ◌∙◌}
use mathlib.Core.Bool.{Bool, true, false}
use mathlib.Core.List.{List}
use Rattle.frame_log.specs.Results.{is_short, is_within}
use Rattle.frame_log.proofs.Within.{within}
use Rattle.input.specs.declared.Input.{Input}
use Rattle.input.specs.declared.FeedResult.{FeedResult}
use Rattle.input.specs.declared.FinishResult.{FinishResult}
use Rattle.input.specs.Input.{InputOutcome}
use Rattle.input.specs.Results.{InputRun, with_room, as_it_is, FeedPromised, FinishPromised}

module _ (most : ℕ) (i : Input) (memory out : List ℕ) (l : InputOutcome) where
  abbrev left : InputRun
  left = with_room most (as_it_is i memory out) l

  room_by : (t : Bool) → is_short most out ≡ t → is_within left.log left.out ≡ true
  unfolding with_room as_it_is is_within
  room_by true q = rw q
  room_by false q = rw q (within l.log out)

  room_within : is_within left.log left.out ≡ true
  room_within = room_by (is_short most out) refl

abbrev is_within_lem : InputRun → Bool
is_within_lem q = is_within q.log q.out

pub feed_within : {i : Input} {start : ℕ} {memory piece out : List ℕ} {r : FeedResult} {memory' out' : List ℕ} → FeedPromised i start memory piece out r memory' out' → is_within r.log out' ≡ true
feed_within {i} {memory = memory} {out = out} p = ap is_within_lem p.fed ∙ room_within _ i memory out _

pub finish_within : {i : Input} {start : ℕ} {memory out : List ℕ} {r : FinishResult} {memory' out' : List ℕ} → FinishPromised i start memory out r memory' out' → is_within r.log out' ≡ true
finish_within {i} {memory = memory} {out = out} p = ap is_within_lem p.ended ∙ room_within _ i memory out _
