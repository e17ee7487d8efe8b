-- What is carried from piece to piece.
--     bytes_length                    the array of a stream that a function is passed has its length: what owning the struct tells
--     clip                            of more than 14 bytes, 14 count
--     fed-none                        the end of the loop over a piece
--     push-room, push-full            another byte, with room for it and without
--     answers_few                     no more answers than bytes
use Rattle.std.proofs.Common.{◌≡◌, ℕ, ◌+◌, ◌<◌, ◌≤◌, min, List, [], ◌∷◌, ◌++◌, length, take, drop, set, sym, ◌∙◌, append-nil, zero-le, add-one, arith, length-append, drop_of_length-le, length-take-le, take_all, take-suc-set, eq-eqb, ne_eqb}
use native.Mathlib.Decide.{dec_le, ℕ_discrete}
use lib.Seq.{take-append-le}
use mir.Val.{Val}
use denote.Laws.{Is}
use denote.Struct.Declared.{row}
use denote.Struct.Laws.{owed}
use Rattle.machine.specs.State.{State}
use Rattle.machine.specs.declared.Answer.{Answer}
use Rattle.frame_log.specs.declared.Stream.{Stream}
use Rattle.frame_log.specs.contracts.Stream.{the_type}
use Rattle.frame_log.proofs.Stream.TheLaws.{the_laws}
use Rattle.frame_log.specs.Log.{line_outcome, PieceOutcome, answering, piece_outcome}

-- `bytes` is field 1
pub bytes_length : (s : Stream) {vs : List Val} → Is (row the_type) s vs → length s.bytes ≡ 14
bytes_length s {vs} g = (owed the_type the_laws s vs g).1.0.1.0.1

module _ (bytes : List ℕ) (whole : length bytes ≡ 14) where
  clip-by : (len : ℕ) → Dec (len ≤ 14) → take (min len 14) bytes ≡ take len bytes
  clip-by len (yes h) = let e : min len 14 ≡ len = omega arith in rw e
  clip-by len (no h) = let e : min len 14 ≡ 14 = omega arith in rw e (take_all 14 bytes (omega arith) ∙ sym (take_all len bytes (omega arith)))

  pub clip : (len : ℕ) → take (min len 14) bytes ≡ take len bytes
  clip len = clip-by len (dec_le len 14)

  pub push-room : (len x : ℕ) → len < 14 → take 14 (take len bytes ++ (x ∷ [])) ≡ take (len + 1) (set bytes len x)
  push-room len x h =
      let k : len < length bytes = omega arith in
      rw (add-one, take-suc-set bytes len x k)
      (take_all 14 (take len bytes ++ (x ∷ [])) (omega (arith, length-append (take len bytes) (x ∷ []), length-take-le len bytes (omega arith))))

  pub push-full : (len x : ℕ) → len ≤ 14 → 14 ≤ len → take 14 (take len bytes ++ (x ∷ [])) ≡ take len bytes
  push-full len x h k =
      let e = length-take-le len bytes (omega arith) in
      take-append-le 14 (take len bytes) (x ∷ []) (omega arith) ∙ take_all 14 (take len bytes) (omega arith)

-- answers before those of f
abbrev pub after_fed : List Answer → PieceOutcome → PieceOutcome
after_fed done f = record { state = f.state; memory = f.memory; begun = f.begun; answers = done ++ f.answers }

module _ (st : State) (start : ℕ) (memory begun : List ℕ) (x : ℕ) (xs : List ℕ) where
  pub fed-lf : x ≡ 10 → piece_outcome st start memory begun (x ∷ xs)
      ≡ answering (line_outcome st start memory begun).answer (piece_outcome (line_outcome st start memory begun).state start (line_outcome st start memory begun).memory [] xs)
  unfolding piece_outcome
  fed-lf e = simp (eq-eqb x 10 e)

  pub fed-other : (x ≡ 10 → ⊥) → piece_outcome st start memory begun (x ∷ xs) ≡ piece_outcome st start memory (take 14 (begun ++ (x ∷ []))) xs
  unfolding piece_outcome
  fed-other e = simp (ne_eqb x 10 e)

module _ (st : State) (start : ℕ) (memory begun piece : List ℕ) (done : List Answer) (i : ℕ) where
  pub fed-none : length piece ≤ i → after_fed done (piece_outcome st start memory begun (drop i piece)) ≡ record { state = st; memory = memory; begun = begun; answers = done }
  unfolding piece_outcome
  fed-none h = rw (drop_of_length-le piece h, append-nil)

few_step : (st : State) (start : ℕ) (memory begun : List ℕ) (x : ℕ) (xs : List ℕ) → Dec (x ≡ 10)
    → length (piece_outcome (line_outcome st start memory begun).state start (line_outcome st start memory begun).memory [] xs).answers ≤ length xs
    → length (piece_outcome st start memory (take 14 (begun ++ (x ∷ []))) xs).answers ≤ length xs → length (piece_outcome st start memory begun (x ∷ xs)).answers ≤ length (x ∷ xs)
few_step st start memory begun x xs (yes e) h k = rw (fed-lf st start memory begun x xs e) (omega arith)
few_step st start memory begun x xs (no e) h k = rw (fed-other st start memory begun x xs e) (omega arith)

pub answers_few : (st : State) (start : ℕ) (memory begun xs : List ℕ) → length (piece_outcome st start memory begun xs).answers ≤ length xs
unfolding piece_outcome
answers_few st start memory begun [] = zero-le
answers_few st start memory begun (x ∷ xs) =
    let o = line_outcome st start memory begun in
    few_step st start memory begun x xs (ℕ_discrete x 10) (answers_few o.state start o.memory [] xs) (answers_few st start memory (take 14 (begun ++ (x ∷ []))) xs)
