-- Demand 3, of any queue: of things of any type, of any depth, over any list of moves. Each of the controller's FIFOs is a queue of words, eight deep
-- (`Account`); another number of places, things of another size and moves that hand out two at once need no other law.
use Rattle.std.specs.Prelude.{ℕ, ◌-◌, ◌≤◌, ◌≡◌, Bool, false, cond, List, [], ◌∷◌, ◌++◌, map, length, drop}

-- what an event is to a queue: it lets things in and hands things out, in order, or it clears
pub record Move (A : Type 0) : Type 0 where
  pub clears : Bool
  pub let_in : List A
  pub handed_out : List A

-- what is held after a move: as many as are handed out have left at the front, those let in stand behind the last; a clear leaves none
abbrev pub queue_after : {A : Type 0} → List A → Move A → List A
queue_after held m = cond m.clears [] (drop (length m.handed_out) held ++ m.let_in)

abbrev pub queue_from : {A : Type 0} → List A → List (Move A) → List A
queue_from held [] = held
queue_from held (m ∷ ms) = queue_from (queue_after held m) ms

-- a queue of a depth makes a move: what is handed out is what stood in front, and what is let in has room beside what is left
pub record Makes {A : Type 0} (depth : ℕ) (held : List A) (m : Move A) : Type 0 where
  pub front : held ≡ m.handed_out ++ drop (length m.handed_out) held
  pub room : length m.let_in ≤ depth - (length held - length m.handed_out)

abbrev pub MakesAll : {A : Type 0} → ℕ → List A → List (Move A) → Type 0
MakesAll depth held [] = Unit {0}
MakesAll depth held (m ∷ ms) = Makes depth held m × MakesAll depth (queue_after held m) ms

-- the books of a queue: what was let in and what was handed out since it was last cleared
pub record Tally (A : Type 0) : Type 0 where
  pub let_in : List A
  pub handed_out : List A

abbrev pub fresh : {A : Type 0} → Tally A
fresh = record { let_in = []; handed_out = [] }

abbrev pub tally_after : {A : Type 0} → Tally A → Move A → Tally A
tally_after t m = record { let_in = cond m.clears [] (t.let_in ++ m.let_in); handed_out = cond m.clears [] (t.handed_out ++ m.handed_out) }

abbrev pub tallied_from : {A : Type 0} → Tally A → List (Move A) → Tally A
tallied_from t [] = t
tallied_from t (m ∷ ms) = tallied_from (tally_after t m) ms

-- `queue_account`: of a queue that was empty and makes some moves, what was let in since it was last cleared is what was handed out since, then what is still
-- held, in order; and no more is held than the depth
abbrev pub QueueAccount : Type 0 → Type 0
QueueAccount A =
    (depth : ℕ) (ms : List (Move A)) → MakesAll depth [] ms
    → (let t = tallied_from fresh ms in (t.let_in ≡ t.handed_out ++ queue_from [] ms) × (length (queue_from [] ms) ≤ depth))

-- two moves alike: both clear or neither does, they hand out the same, and let in as much
pub record Alike {A : Type 0} (m n : Move A) : Type 0 where
  pub clears : m.clears ≡ n.clears
  pub much : length m.let_in ≡ length n.let_in
  pub handed_out : m.handed_out ≡ n.handed_out

abbrev pub MovesAlike : {A : Type 0} → List (Move A) → List (Move A) → Type 0
MovesAlike [] [] = Unit {0}
MovesAlike [] (n ∷ ns) = ⊥
MovesAlike (m ∷ ms) [] = ⊥
MovesAlike (m ∷ ms) (n ∷ ns) = Alike m n × MovesAlike ms ns

abbrev pub NoneClears : {A : Type 0} → List (Move A) → Type 0
NoneClears [] = Unit {0}
NoneClears (m ∷ ms) = (m.clears ≡ false) × NoneClears ms

-- what each move lets in
abbrev pub accepted : {A : Type 0} → List (Move A) → List (List A)
accepted ms = map (λ m. m.let_in) ms

-- `queues_agree`: two queues that make moves alike, one by one, and hold the same at the end were let in the same since the last clear; with no clear, by every move
-- the same
abbrev pub QueuesAgree : Type 0 → Type 0
QueuesAgree A =
    (depth : ℕ) (ms ns : List (Move A)) → MovesAlike ms ns → MakesAll depth [] ms → MakesAll depth [] ns → queue_from [] ms ≡ queue_from [] ns
    → ((tallied_from fresh ms).let_in ≡ (tallied_from fresh ns).let_in) × (NoneClears ms → accepted ms ≡ accepted ns)
