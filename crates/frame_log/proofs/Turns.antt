-- What a turn of the loop over a piece takes.
--     whole-line    a line that stands in the piece whole, with its LF
--     frame_line_lem    a frame with an LF behind it is such a line, of 13 bytes
--     line-takes, part-takes, lf-takes, byte-takes    a turn that takes a whole line, the LF of a line that is carried, any other byte
--     tells_on    turns one after the other
--     line_told, none_told    what is fed from a line on, and where no other ends
use Rattle.std.proofs.Common.{◌≡◌, ℕ, Option, Some, None, zero, suc, ◌+◌, ◌<◌, ◌≤◌, Bool, true, false, cond, eqb, ltb, List, [], ◌∷◌, ◌++◌, length, get_or, take, drop, sym, refl, ap, ◌∙◌, true≢false, append_assoc, append-nil, add-one, arith, length-append, length-drop, length-take-le, drop-cons, drop-drop, eq-eqb, ne_eqb, eqb-true}
use native.Mathlib.Decide.{dec_le, ℕ_discrete}
use Rattle.machine.specs.State.{State}
use Rattle.machine.specs.Step.{Outcome}
use Rattle.machine.specs.declared.Step.{Step}
use Rattle.machine.specs.declared.Answer.{Answer}
use Rattle.hex_digits.specs.Hex.{hex_digits, place_in, digit_number, all_digits}
use Rattle.laws.proofs.Below.{both}
use Rattle.lines.specs.Lines.{until_lf, line_at, line_end}
use Rattle.lines.proofs.Positions.{until_lf_lem, until_more, end-within}
use Rattle.frame.proofs.Stands.{getd_within}
use Rattle.frame.specs.Frame.{is_frame, frame_of, frame_in, framed_outcome}
use Rattle.frame_log.specs.declared.progress.Progress.{Progress}
use Rattle.frame_log.specs.Log.{line_outcome, answering, PieceOutcome, piece_outcome, frames_in}
use Rattle.frame_log.specs.Results.{begun_at, Tells, TurnPromised, LinePromised}
use Rattle.frame_log.proofs.Carried.{fed-lf, fed-other, fed-none, after_fed}
use Rattle.frame_log.proofs.Pieces.{frame_clip, take_clip}

-- ---- a whole line

module _ (st : State) (start : ℕ) (memory : List ℕ) where
  -- the answer to a line, then the rest
  abbrev answered : List ℕ → List ℕ → PieceOutcome
  answered line rest =
      let o = line_outcome st start memory line in
      answering o.answer (piece_outcome o.state start o.memory [] rest)

  outcome-clip : (l : List ℕ) → line_outcome st start memory (take 14 l) ≡ line_outcome st start memory l
  unfolding line_outcome
  outcome-clip l = rw (frame_clip l (dec_le (length l) 14))

  line-by : (begun : List ℕ) (x : ℕ) (xs : List ℕ) → Dec (x ≡ 10)
      → (until_lf xs < length xs → piece_outcome st start memory (take 14 (begun ++ (x ∷ []))) xs ≡ answered ((begun ++ (x ∷ [])) ++ take (until_lf xs) xs) (drop (suc (until_lf xs)) xs))
      → until_lf (x ∷ xs) < length (x ∷ xs)
      → piece_outcome st start memory (take 14 begun) (x ∷ xs) ≡ answered (begun ++ take (until_lf (x ∷ xs)) (x ∷ xs)) (drop (suc (until_lf (x ∷ xs))) (x ∷ xs))
  line-by begun x xs (yes e) ih h = rw (until_lf_lem x xs e, append-nil begun) (fed-lf st start memory (take 14 begun) x xs e ∙ rw (outcome-clip begun))
  line-by begun x xs (no e) ih h =
      let u = until_more x xs e in
      rw (u, ← append_assoc begun (x ∷ []) (take (until_lf xs) xs)) (fed-other st start memory (take 14 begun) x xs e ∙ rw (take_clip 14 begun (x ∷ [])) (ih (omega (arith, u))))

  line-from : (begun xs : List ℕ) → until_lf xs < length xs → piece_outcome st start memory (take 14 begun) xs ≡ answered (begun ++ take (until_lf xs) xs) (drop (suc (until_lf xs)) xs)
  line-from begun [] h = absurd (omega arith)
  line-from begun (x ∷ xs) h = line-by begun x xs (ℕ_discrete x 10) (line-from (begun ++ (x ∷ [])) xs) h

  pub whole-line : (xs : List ℕ) → until_lf xs < length xs → piece_outcome st start memory [] xs ≡ answered (take (until_lf xs) xs) (drop (suc (until_lf xs)) xs)
  whole-line xs h = line-from [] xs h

-- what the lines of a piece say, likewise
pub frames_lf : (begun : List ℕ) (x : ℕ) (xs : List ℕ) → x ≡ 10 → frames_in begun (x ∷ xs) ≡ frame_of begun ∷ frames_in [] xs
unfolding frames_in
frames_lf begun x xs e = simp (eq-eqb x 10 e)

pub frames_other : (begun : List ℕ) (x : ℕ) (xs : List ℕ) → (x ≡ 10 → ⊥) → frames_in begun (x ∷ xs) ≡ frames_in (take 14 (begun ++ (x ∷ []))) xs
unfolding frames_in
frames_other begun x xs e = simp (ne_eqb x 10 e)

-- what a line says, then the rest
abbrev said : List ℕ → List ℕ → List (Option Step)
said line rest = frame_of line ∷ frames_in [] rest

frames_by : (begun : List ℕ) (x : ℕ) (xs : List ℕ) → Dec (x ≡ 10)
    → (until_lf xs < length xs → frames_in (take 14 (begun ++ (x ∷ []))) xs ≡ said ((begun ++ (x ∷ [])) ++ take (until_lf xs) xs) (drop (suc (until_lf xs)) xs))
    → until_lf (x ∷ xs) < length (x ∷ xs)
    → frames_in (take 14 begun) (x ∷ xs) ≡ said (begun ++ take (until_lf (x ∷ xs)) (x ∷ xs)) (drop (suc (until_lf (x ∷ xs))) (x ∷ xs))
frames_by begun x xs (yes e) ih h = rw (until_lf_lem x xs e, append-nil begun) (frames_lf (take 14 begun) x xs e ∙ rw (frame_clip begun (dec_le (length begun) 14)))
frames_by begun x xs (no e) ih h =
    let u = until_more x xs e in
    rw (u, ← append_assoc begun (x ∷ []) (take (until_lf xs) xs)) (frames_other (take 14 begun) x xs e ∙ rw (take_clip 14 begun (x ∷ [])) (ih (omega (arith, u))))

frames_from : (begun xs : List ℕ) → until_lf xs < length xs → frames_in (take 14 begun) xs ≡ said (begun ++ take (until_lf xs) xs) (drop (suc (until_lf xs)) xs)
frames_from begun [] h = absurd (omega arith)
frames_from begun (x ∷ xs) h = frames_by begun x xs (ℕ_discrete x 10) (frames_from (begun ++ (x ∷ [])) xs) h

-- ---- a frame

-- an LF is no digit
digit_other : (b : ℕ) → ltb (digit_number b) 16 ≡ true → b ≡ 10 → ⊥
unfolding digit_number place_in hex_digits
digit_other b h e = true≢false (sym h ∙ ap (λ (n : ℕ). ltb (digit_number n) 16) e)

until_digits : (n : ℕ) (xs : List ℕ) → all_digits (take n xs) ≡ true → get_or xs n 0 ≡ 10 → until_lf xs ≡ n
unfolding all_digits
until_digits zero [] d e = absurd (omega arith)
until_digits zero (x ∷ xs) d e = until_lf_lem x xs e
until_digits (suc n) [] d e = absurd (omega arith)
until_digits (suc n) (x ∷ xs) d e =
    let parts = both (ltb (digit_number x) 16) (all_digits (take n xs)) d in
    until_more x xs (digit_other x parts.0) ∙ ap suc (until_digits n xs parts.1 e)

-- a frame line of 13 bytes that are digits
pub record FrameLine (xs : List ℕ) (s : Step) : Type 0 where
  pub until : until_lf xs ≡ 13
  pub more : 13 < length xs
  pub says : frame_of (take 13 xs) ≡ Some s

no_frame : (s : Step) → None ≡ Some s → ⊥
no_frame s e = let w : ◌≡◌ {A = ℕ} 0 1 = cc in absurd (omega arith)

digits_in_lem : (line : List ℕ) (s : Step) (t : Bool) → is_frame line ≡ t → frame_of line ≡ Some s → all_digits line ≡ true
unfolding frame_of is_frame
digits_in_lem line s true q e = (both (eqb (length line) 13) (all_digits line) q).1
digits_in_lem line s false q e = absurd (no_frame s (rw q at e))

frame_by : (xs : List ℕ) (s : Step) (t : Bool) → eqb (get_or xs 13 0) 10 ≡ t → cond t (frame_of (take 13 xs)) None ≡ Some s → FrameLine xs s
frame_by xs s true q e =
    let lf = eqb-true (get_or xs 13 0) 10 q in
    record { until = until_digits 13 xs (digits_in_lem (take 13 xs) s (is_frame (take 13 xs)) refl e) lf; more = getd_within 13 xs lf; says = e }
frame_by xs s false q e = absurd (no_frame s e)

pub frame_line_lem : (xs : List ℕ) (s : Step) → frame_in xs ≡ Some s → FrameLine xs s
unfolding frame_in
frame_line_lem xs s e = frame_by xs s (eqb (get_or xs 13 0) 10) refl e

-- ---- a turn

module _ (p q : Progress) (piece : List ℕ) where
  pub line-takes : (n : ℕ) (f : Option Step) → p.len ≡ 0 → q.len ≡ 0 → q.at ≡ p.at + n + 1 → until_lf (drop p.at piece) ≡ n → p.at + n < length piece
      → f ≡ frame_of (take n (drop p.at piece)) → TurnPromised p piece (Some f) q
  unfolding line_outcome
  line-takes n f pl ql qa u h e =
      let past : p.at + suc n ≡ p.at + n + 1 = omega arith in
      let rest : drop (suc n) (drop p.at piece) ≡ drop (p.at + n + 1) piece = drop-drop (suc n) p.at piece ∙ ap (λ (k : ℕ). drop k piece) past in
      record {
        above = omega arith;
        within = omega arith;
        tells = record {
          fed = λ st start memory. rw (pl, ql, qa) (whole-line st start memory (drop p.at piece) (omega (arith, u, length-drop p.at piece)) ∙ rw (u, rest, e));
          says = rw (pl, ql, qa) (frames_from [] (drop p.at piece) (omega (arith, u, length-drop p.at piece)) ∙ rw (u, rest, e));
        };
      }

  pub part-takes : (line : List ℕ) (f : Option Step) → p.len ≡ 0 → q.len ≡ 0 → q.at ≡ p.at + length line + 1 → line ≡ line_at piece p.at → p.at ≤ length piece
      → p.at + length line < length piece → f ≡ frame_of line → TurnPromised p piece (Some f) q
  unfolding line_at line_end
  part-takes line f pl ql qa l h k e =
      let n : until_lf (drop p.at piece) ≡ length line =
      sym (ap length l ∙ length-take-le (until_lf (drop p.at piece)) (drop p.at piece) (omega (arith, end-within piece p.at h, length-drop p.at piece))) in
      line-takes (length line) f pl ql qa n k (e ∙ ap frame_of (l ∙ ap (λ (j : ℕ). take j (drop p.at piece)) n))

  module _ (h : p.at < length piece) (qa : q.at ≡ p.at + 1) where
    pub lf-takes : (f : Option Step) → q.len ≡ 0 → get_or piece p.at 0 ≡ 10 → f ≡ frame_of (begun_at p) → TurnPromised p piece (Some f) q
    unfolding line_outcome
    lf-takes f ql x e =
        record {
          above = omega arith;
          within = omega arith;
          tells = record {
            fed = λ st start memory. rw (ql, qa, add-one, e) (rw (drop-cons piece p.at 0 h) (fed-lf st start memory (begun_at p) (get_or piece p.at 0) (drop (suc p.at) piece) x));
            says = rw (ql, qa, add-one, e) (rw (drop-cons piece p.at 0 h) (frames_lf (begun_at p) (get_or piece p.at 0) (drop (suc p.at) piece) x));
          };
        }

    pub byte-takes : (get_or piece p.at 0 ≡ 10 → ⊥) → take 14 (begun_at p ++ (get_or piece p.at 0 ∷ [])) ≡ begun_at q → TurnPromised p piece None q
    byte-takes x e =
        record {
          above = omega arith;
          within = omega arith;
          tells = record {
            fed = λ st start memory. rw (qa, add-one, ← e) (rw (drop-cons piece p.at 0 h) (fed-other st start memory (begun_at p) (get_or piece p.at 0) (drop (suc p.at) piece) x));
            says = rw (qa, add-one, ← e) (rw (drop-cons piece p.at 0 h) (frames_other (begun_at p) (get_or piece p.at 0) (drop (suc p.at) piece) x));
          };
        }

-- ---- a line

-- turns that tell of no line, then one more
pub tells_on : {p q s : Progress} {piece : List ℕ} {r : Option (Option Step)} → Tells p piece None q → Tells q piece r s → Tells p piece r s
tells_on a b = record { fed = λ st start memory. a.fed st start memory ∙ b.fed st start memory; says = a.says ∙ b.says }

module _ (p q : Progress) (piece : List ℕ) (st : State) (start : ℕ) (memory : List ℕ) (done : List Answer) where
  -- what is fed at a place, from a state and a memory
  abbrev rest : Progress → State → List ℕ → PieceOutcome
  rest r st' memory' = piece_outcome st' start memory' (begun_at r) (drop r.at piece)

  pub line_told : (said : Option Step) → LinePromised p piece (Some said) q → (o : Outcome) → o ≡ framed_outcome said st start memory
      → after_fed done (rest p st memory) ≡ after_fed (done ++ (o.answer ∷ [])) (rest q o.state o.memory)
  line_told said T o e = rw (T.tells.fed st start memory, ← e, append_assoc)

  pub none_told : LinePromised p piece None q → after_fed done (rest p st memory) ≡ record { state = st; memory = memory; begun = begun_at q; answers = done }
  none_told T = ap (after_fed done) (T.tells.fed st start memory) ∙ fed-none st start memory (begun_at q) piece done q.at T.place

-- so there is an answer more
pub more_answers : (f : PieceOutcome) (done : List Answer) (a : Answer) (g : PieceOutcome) → f ≡ after_fed (done ++ (a ∷ [])) g → length done < length f.answers
more_answers f done a g e = rw e (omega (arith, length-append (done ++ (a ∷ [])) g.answers, length-append done (a ∷ [])))
