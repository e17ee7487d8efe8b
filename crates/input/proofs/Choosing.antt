-- The set that the first line of a whole input chooses, byte by byte.
use Prim.Native.Nat.{ℕ}
use mathlib.Core.Path.{◌≡◌, refl, sym, ap, ◌∙◌}
use mathlib.Core.List.{List, [], ◌∷◌}
use Rattle.std.proofs.Common.{Option, Some, None}
use Rattle.input.specs.declared.Passed.{Passed}
use Rattle.input.specs.declared.Reading.{Reading}
use Rattle.input.specs.declared.Reading.TheVariants.{FirstLine, Frames, Over}
use Rattle.input.specs.declared.SetLine.{SetLine}
use Rattle.input.specs.declared.SetLine.TheVariants.{Nothing, Digit, Number}
use Rattle.input.specs.Input.{heard, Passing, passing, chosen_in}
use Rattle.input.specs.Results.{PassedBy}
use Rattle.input.proofs.Passing.{passing_frames, passing_over}
use Rattle.input.proofs.ByFirst.{on_from, at_end, by_first_lem}

-- by how far the reading of the whole input comes
abbrev pub chosen_by : Reading → Option ℕ
chosen_by (FirstLine Nothing) = None
chosen_by (FirstLine (Digit high)) = None
chosen_by (FirstLine (Number set)) = Some set
chosen_by (Frames set) = Some set
chosen_by Over = None

pub no_set : (line : SetLine) → ((set : ℕ) → line ≡ Number set → ⊥) → None ≡ chosen_by (FirstLine line)
no_set Nothing n = refl
no_set (Digit high) n = refl
no_set (Number set) n = absurd (n set refl)

abbrev chosen_from : SetLine → List ℕ → Option ℕ
chosen_from line xs = chosen_by (passing (FirstLine line) xs).reading

abbrev set_only : ℕ → List ℕ → Option ℕ
set_only set xs = Some set

from_end : (line : SetLine) → chosen_from line [] ≡ at_end chosen_from set_only None line
unfolding passing
from_end Nothing = refl
from_end (Digit high) = refl
from_end (Number set) = refl

from_more : (line : SetLine) (x : ℕ) (xs : List ℕ) (r : Reading) → heard line x ≡ r → chosen_from line (x ∷ xs) ≡ on_from chosen_from set_only None r xs
unfolding passing
from_more line x xs (FirstLine next) e = ap (λ (r : Reading). chosen_by (passing r xs).reading) e
from_more line x xs (Frames set) e = ap (λ (r : Reading). chosen_by (passing r xs).reading) e ∙ rw (passing_frames set xs)
from_more line x xs Over e = ap (λ (r : Reading). chosen_by (passing r xs).reading) e ∙ rw (passing_over xs)

chosen_is : (xs : List ℕ) → chosen_from Nothing xs ≡ chosen_in xs
unfolding chosen_in
chosen_is xs = by_first_lem chosen_from set_only None from_end from_more xs

pub chosen_told : {text : List ℕ} {r : Passed} → PassedBy (FirstLine Nothing) text r → chosen_by r.reading ≡ chosen_in text
chosen_told {text} p = sym (ap (λ (q : Passing). chosen_by q.reading) p.passes) ∙ chosen_is text
