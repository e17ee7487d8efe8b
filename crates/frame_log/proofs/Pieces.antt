-- A text in pieces tells what the whole text tells, wherever the pieces end.
--     told_same      of a line that has begun the first 14 bytes decide
--     piece_told     a text that begins with a piece
use Rattle.std.proofs.Common.{◌≡◌, ℕ, zero, suc, ◌<◌, ◌≤◌, List, [], ◌∷◌, ◌++◌, length, take, sym, refl, ap, ◌∙◌, append_assoc, append-nil, arith, length-append, length-take, length-take-le, take_all, take-take, ne_eqb}
use native.Mathlib.Decide.{dec_le, dec_lt, ℕ_discrete}
use lib.Seq.{take-append-le}
use Rattle.machine.specs.State.{State}
use Rattle.lines.specs.Lines.{lines_from}
use Rattle.lines.proofs.Lines.{lines_lf, lines_other, lines_end, lines_stop}
use Rattle.frame.specs.Frame.{is_frame, frame_of}
use Rattle.frame_log.specs.Log.{line_outcome, TextOutcome, lines_outcome, after, PieceOutcome, piece_outcome}
use Rattle.frame_log.specs.Promises.{joined, pieces_outcome, PiecesJoined}
use Rattle.frame_log.proofs.Carried.{fed-lf, fed-other}

-- ---- the first 14 bytes decide

pub frame_clip : (l : List ℕ) → Dec (length l ≤ 14) → frame_of (take 14 l) ≡ frame_of l
unfolding frame_of is_frame
frame_clip l (yes h) = rw (take_all 14 l h)
frame_clip l (no h) =
    let n : length (take 14 l) ≡ 14 = length-take-le 14 l (omega arith) in
    simp (ne_eqb (length (take 14 l)) 13 (λ e. omega arith), ne_eqb (length l) 13 (λ e. omega arith))

-- l and k agree in them
abbrev pub SameStart : List ℕ → List ℕ → Type 0
SameStart l k = take 14 l ≡ take 14 k

pub take_clip : (n : ℕ) (l t : List ℕ) → take n (take n l ++ t) ≡ take n (l ++ t)
take_clip zero l t = refl
take_clip (suc n) [] t = refl
take_clip (suc n) (a ∷ l) t = ap (λ (r : List ℕ). a ∷ r) (take_clip n l t)

pub same_more : (l k : List ℕ) (x : ℕ) → SameStart l k → SameStart (l ++ (x ∷ [])) (k ++ (x ∷ []))
same_more l k x e = sym (take_clip 14 l (x ∷ [])) ∙ ap (λ (r : List ℕ). take 14 (r ++ (x ∷ []))) e ∙ take_clip 14 k (x ∷ [])

module _ (st : State) (start : ℕ) (memory : List ℕ) where
  line_same : (l k : List ℕ) (ls : List (List ℕ)) → SameStart l k → lines_outcome st start memory (l ∷ ls) ≡ lines_outcome st start memory (k ∷ ls)
  unfolding lines_outcome line_outcome
  line_same l k ls e = rw (sym (frame_clip l (dec_le (length l) 14)) ∙ ap frame_of e ∙ frame_clip k (dec_le (length k) 14))

  end_same : (l k : List ℕ) → SameStart l k → Dec (0 < length l) → lines_outcome st start memory (lines_from l []) ≡ lines_outcome st start memory (lines_from k [])
  end_same l k e (yes h) =
      let j : 0 < length k = omega (arith, length-take 14 l, length-take 14 k, ap length e) in
      rw (lines_end l h, lines_end k j) (line_same l k [] e)
  end_same l k e (no h) =
      let i : length l ≡ 0 = omega arith in
      let j : length k ≡ 0 = omega (arith, length-take 14 l, length-take 14 k, ap length e) in
      rw (lines_stop l i, lines_stop k j)

  same_step : (l k : List ℕ) (x : ℕ) (xs : List ℕ) → SameStart l k
      → lines_outcome st start memory (lines_from (l ++ (x ∷ [])) xs) ≡ lines_outcome st start memory (lines_from (k ++ (x ∷ [])) xs) → Dec (x ≡ 10)
      → lines_outcome st start memory (lines_from l (x ∷ xs)) ≡ lines_outcome st start memory (lines_from k (x ∷ xs))
  same_step l k x xs e ih (yes h) = rw (lines_lf l x xs h, lines_lf k x xs h) (line_same l k (lines_from [] xs) e)
  same_step l k x xs e ih (no h) = rw (lines_other l x xs h, lines_other k x xs h) ih

  told_same : (l k xs : List ℕ) → SameStart l k → lines_outcome st start memory (lines_from l xs) ≡ lines_outcome st start memory (lines_from k xs)
  told_same l k [] e = end_same l k e (dec_lt 0 (length l))
  told_same l k (x ∷ xs) e = same_step l k x xs e (told_same (l ++ (x ∷ [])) (k ++ (x ∷ [])) xs (same_more l k x e)) (ℕ_discrete x 10)

-- ---- a piece

-- what a piece left, of a text that goes on with b
abbrev then : ℕ → PieceOutcome → List ℕ → TextOutcome
then start f b = after f.answers (lines_outcome f.state start f.memory (lines_from f.begun b))

module _ (st : State) (start : ℕ) (memory begun : List ℕ) (x : ℕ) (xs b : List ℕ) where
  abbrev st' : State
  st' = (line_outcome st start memory begun).state

  abbrev memory' : List ℕ
  memory' = (line_outcome st start memory begun).memory

  abbrev begun' : List ℕ
  begun' = take 14 (begun ++ (x ∷ []))

  piece-step : Dec (x ≡ 10)
      → lines_outcome st' start memory' (lines_from [] (xs ++ b)) ≡ then start (piece_outcome st' start memory' [] xs) b
      → lines_outcome st start memory (lines_from begun' (xs ++ b)) ≡ then start (piece_outcome st start memory begun' xs) b
      → lines_outcome st start memory (lines_from begun (x ∷ (xs ++ b))) ≡ then start (piece_outcome st start memory begun (x ∷ xs)) b
  unfolding lines_outcome
  piece-step (yes e) h k =
      rw (lines_lf begun x (xs ++ b) e, fed-lf st start memory begun x xs e) (ap (λ (t : TextOutcome). after ((line_outcome st start memory begun).answer ∷ []) t) h)
  piece-step (no e) h k =
      rw (lines_other begun x (xs ++ b) e, fed-other st start memory begun x xs e)
      (told_same st start memory (begun ++ (x ∷ [])) begun' (xs ++ b) (sym (take-take 14 14 (begun ++ (x ∷ [])) (omega arith))) ∙ k)

pub piece_told : (st : State) (start : ℕ) (memory begun a b : List ℕ) → lines_outcome st start memory (lines_from begun (a ++ b)) ≡ then start (piece_outcome st start memory begun a) b
unfolding piece_outcome
piece_told st start memory begun [] b = refl
piece_told st start memory begun (x ∷ a) b =
    let o = line_outcome st start memory begun in
    piece-step st start memory begun x a b (ℕ_discrete x 10) (piece_told o.state start o.memory [] a b) (piece_told st start memory (take 14 (begun ++ (x ∷ []))) a b)

-- ---- what has begun is no more than 14 bytes, none an LF

record Begun (begun : List ℕ) : Type 0 where
  few : length begun ≤ 14
  whole : (xs : List ℕ) → lines_from [] (begun ++ xs) ≡ lines_from begun xs

begun_none : Begun []
begun_none = record { few = omega arith; whole = λ xs. refl }

begun_by : (begun : List ℕ) (x : ℕ) → Begun begun → (x ≡ 10 → ⊥) → Dec (length begun < 14) → Begun (take 14 (begun ++ (x ∷ [])))
begun_by begun x b e (yes h) =
    let n : length (begun ++ (x ∷ [])) ≤ 14 = rw length-append (omega arith) in
    rw (take_all 14 (begun ++ (x ∷ [])) n)
    (record { few = n; whole = λ xs. rw append_assoc (b.whole (x ∷ xs) ∙ lines_other begun x xs e) })
begun_by begun x b e (no h) =
    rw (take-append-le 14 begun (x ∷ []) (omega (arith, b.few)), take_all 14 begun b.few) b

begun_step : (st : State) (start : ℕ) (memory begun : List ℕ) (x : ℕ) (xs : List ℕ) → Begun begun → Dec (x ≡ 10)
    → Begun (piece_outcome (line_outcome st start memory begun).state start (line_outcome st start memory begun).memory [] xs).begun
    → (Begun (take 14 (begun ++ (x ∷ []))) → Begun (piece_outcome st start memory (take 14 (begun ++ (x ∷ []))) xs).begun)
    → Begun (piece_outcome st start memory begun (x ∷ xs)).begun
begun_step st start memory begun x xs b (yes e) h k = rw (fed-lf st start memory begun x xs e) h
begun_step st start memory begun x xs b (no e) h k = rw (fed-other st start memory begun x xs e) (k (begun_by begun x b e (dec_lt (length begun) 14)))

begun_fed : (st : State) (start : ℕ) (memory begun xs : List ℕ) → Begun begun → Begun (piece_outcome st start memory begun xs).begun
unfolding piece_outcome
begun_fed st start memory begun [] b = b
begun_fed st start memory begun (x ∷ xs) b =
    let o = line_outcome st start memory begun in
    begun_step st start memory begun x xs b (ℕ_discrete x 10) (begun_fed o.state start o.memory [] xs begun_none) (begun_fed st start memory (take 14 (begun ++ (x ∷ []))) xs)

-- ---- all pieces

pieces_from : (st : State) (start : ℕ) (memory begun : List ℕ) (pieces : List (List ℕ)) → Begun begun
    → pieces_outcome st start memory begun pieces ≡ lines_outcome st start memory (lines_from begun (joined pieces))
unfolding pieces_outcome
pieces_from st start memory begun [] b = ap (lines_outcome st start memory) (ap (lines_from []) (sym (append-nil begun)) ∙ b.whole [])
pieces_from st start memory begun (p ∷ more) b =
    let f = piece_outcome st start memory begun p in
    ap (after f.answers) (pieces_from f.state start f.memory f.begun more (begun_fed st start memory begun p b))
    ∙ sym (piece_told st start memory begun p (joined more))

pub pieces_joined : PiecesJoined
pieces_joined st start memory pieces = pieces_from st start memory [] pieces begun_none
