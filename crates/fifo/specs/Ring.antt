-- A ring of any number of places and any type of element.
use Rattle.std.specs.Prelude.{ℕ, zero, suc, ◌%◌, List, [], ◌∷◌, get_or}

-- the k elements from place h on, places counted modulo n; d is read where there is no place
unfoldable pub from : {A : Type 0} → ℕ → A → List A → ℕ → ℕ → List A
from n d places h zero = []
from n d places h (suc k) = get_or places (h % n) d ∷ from n d places (suc h) k
