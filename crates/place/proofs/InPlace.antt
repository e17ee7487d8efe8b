-- The step in place is the step by value.
use Rattle.place.specs.InPlace.{stepped_to, InPlaceEqual}
use Rattle.step.proofs.Unique.{step_unique}

pub in_place_equal : InPlaceEqual
in_place_equal c start memory s r after left a also p q = step_unique c start memory s r (stepped_to left a) after also p q
