-- An input in pieces has the log of the whole input, wherever the pieces end.
--     over_none, frames-log    what pieces log after the set line
--     as_one                   pieces log what they do as one
--     whole                    an input as one piece, by its first line
use Prim.Native.Nat.{ℕ}
use mathlib.Core.Path.{◌≡◌, refl, sym, ap, ◌∙◌}
use mathlib.Core.List.{List, [], ◌∷◌, ◌++◌, append-nil}
use Rattle.machine.specs.State.{State, reset_state}
use Rattle.machine.specs.Window.{zero_words}
use Rattle.lines.specs.Lines.{lines_from}
use Rattle.logline.specs.LogLine.{refusal}
use Rattle.frame_log.specs.Log.{log_of, lines_outcome, text_outcome, piece_outcome}
use Rattle.frame_log.specs.Promises.{joined, pieces_outcome, program_log}
use Rattle.frame_log.proofs.TextOutcome.{log_append}
use Rattle.frame_log.proofs.Pieces.{pieces_joined}
use Rattle.input.specs.declared.Reading.{Reading}
use Rattle.input.specs.declared.Reading.TheVariants.{FirstLine, Frames, Over}
use Rattle.input.specs.declared.SetLine.{SetLine}
use Rattle.input.specs.declared.SetLine.TheVariants.{Nothing, Digit, Number}
use Rattle.input.specs.Input.{input_log, heard, has_set, passing, refusal_after, fed_past, fed_input, ended_first, ended_input}
use Rattle.input.specs.Promises.{pieces_log, InputJoined}
use Rattle.input.proofs.Passing.{passing_none, passing_frames, passing_over, passing_append, passing_rest}
use Rattle.input.proofs.ByFirst.{on_from, at_end, by_first_lem}

module _ (start : ℕ) where
  -- ---- after the set line

  pub over_none : (st : State) (memory begun : List ℕ) (pieces : List (List ℕ)) → pieces_log Over st start memory begun pieces ≡ []
  unfolding pieces_log ended_input fed_input fed_past refusal_after
  over_none st memory begun [] = refl
  over_none st memory begun (p ∷ more) = rw (passing_over p) (over_none st memory begun more)

  pub frames-log : (set : ℕ) (st : State) (memory begun : List ℕ) (pieces : List (List ℕ))
      → pieces_log (Frames set) st start memory begun pieces ≡ log_of set (pieces_outcome st start memory begun pieces).answers
  unfolding pieces_log ended_input fed_input fed_past pieces_outcome
  frames-log set st memory begun [] = refl
  frames-log set st memory begun (p ∷ more) =
      let f = piece_outcome st start memory begun p in
      rw (passing_frames set p) (ap (λ (l : List ℕ). log_of set f.answers ++ l) (frames-log set f.state f.memory f.begun more) ∙ sym (log_append set f.answers _))

  -- ---- pieces as one

  module _ (st : State) (memory : List ℕ) where
    -- from the set line on, by where the reading comes with the first piece
    abbrev from : SetLine → List (List ℕ) → List ℕ
    from line pieces = pieces_log (FirstLine line) st start memory [] pieces

    frames-text : (set : ℕ) (pieces : List (List ℕ)) → pieces_log (Frames set) st start memory [] pieces ≡ log_of set (text_outcome st start memory (joined pieces)).answers
    frames-text set pieces = frames-log set st memory [] pieces ∙ rw (pieces_joined st start memory pieces)

    -- the set line, further on: what had come of it before the piece does not matter
    past_same : (line next : SetLine) (r : Reading) (rest : List ℕ) → fed_past (FirstLine line) r st start memory [] rest ≡ fed_past (FirstLine next) r st start memory [] rest
    unfolding fed_past refusal_after
    past_same line next (FirstLine here) rest = refl
    past_same line next (Frames set) rest = refl
    past_same line next Over rest = refl

    pub on-from : (line next : SetLine) (xs ys : List ℕ) (more : List (List ℕ)) → passing (FirstLine line) xs ≡ passing (FirstLine next) ys → from line (xs ∷ more) ≡ from next (ys ∷ more)
    unfolding pieces_log fed_input
    on-from line next xs ys more e = rw (e, past_same line next (passing (FirstLine next) ys).reading (passing (FirstLine next) ys).rest)

    -- frames from the first piece on
    pub frames_from : (line : SetLine) (p rest : List ℕ) (set : ℕ) (more : List (List ℕ)) → passing (FirstLine line) p ≡ record { reading = Frames set; rest = rest }
        → from line (p ∷ more) ≡ log_of set (text_outcome st start memory (rest ++ joined more)).answers
    unfolding pieces_log fed_input fed_past
    frames_from line p rest set more e = rw e (let t = frames-text set (rest ∷ more) in rw (passing_frames set rest) at t)

    pub over-from : (line : SetLine) (p rest : List ℕ) (more : List (List ℕ)) → passing (FirstLine line) p ≡ record { reading = Over; rest = rest } → from line (p ∷ more) ≡ refusal
    unfolding pieces_log fed_input fed_past refusal_after
    over-from line p rest more e = rw e (ap (λ (l : List ℕ). refusal ++ l) (over_none st memory [] more) ∙ append-nil refusal)

    first-from : (line next : SetLine) (p : List ℕ) (more : List (List ℕ)) → passing (FirstLine line) p ≡ record { reading = FirstLine next; rest = [] } → from line (p ∷ more) ≡ from next more
    unfolding pieces_log fed_input fed_past
    first-from line next p more e = rw e

    one-by : (line : SetLine) (p rest : List ℕ) (more : List (List ℕ)) (r : Reading) → passing (FirstLine line) p ≡ record { reading = r; rest = rest }
        → ((next : SetLine) → from next more ≡ from next (joined more ∷ [])) → from line (p ∷ more) ≡ from line ((p ++ joined more) ∷ [])
    one-by line p rest more (FirstLine next) e ih =
        let here : rest ≡ [] = sym (λ i. (e i).rest) ∙ passing_rest (FirstLine line) p next (λ i. (e i).reading) in
        let on : passing (FirstLine line) p ≡ record { reading = FirstLine next; rest = [] } = rw here at e in
        let whole : passing (FirstLine line) (p ++ joined more) ≡ passing (FirstLine next) (joined more) = passing_append (FirstLine line) p (joined more) ∙ rw on in
        first-from line next p more on ∙ ih next ∙ sym (on-from line next (p ++ joined more) (joined more) [] whole)
    one-by line p rest more (Frames set) e ih =
        let whole : passing (FirstLine line) (p ++ joined more) ≡ record { reading = Frames set; rest = rest ++ joined more } = passing_append (FirstLine line) p (joined more) ∙ rw e (passing_frames set (rest ++ joined more)) in
        frames_from line p rest set more e ∙ sym (frames_from line (p ++ joined more) (rest ++ joined more) set [] whole ∙ rw (append-nil (rest ++ joined more)))
    one-by line p rest more Over e ih =
        let whole : passing (FirstLine line) (p ++ joined more) ≡ record { reading = Over; rest = rest ++ joined more } = passing_append (FirstLine line) p (joined more) ∙ rw e (passing_over (rest ++ joined more)) in
        over-from line p rest more e ∙ sym (over-from line (p ++ joined more) (rest ++ joined more) [] whole)

    pub as_one : (line : SetLine) (pieces : List (List ℕ)) → from line pieces ≡ from line (joined pieces ∷ [])
    unfolding pieces_log fed_input fed_past
    as_one line [] = rw (passing_none (FirstLine line))
    as_one line (p ∷ more) =
        let q = passing (FirstLine line) p in
        one-by line p q.rest more q.reading refl (λ next. as_one next more)

-- ---- an input as one piece, by its first line

-- the whole rest of an input, from what has come of the set line on
abbrev whole : SetLine → List ℕ → List ℕ
whole line xs = pieces_log (FirstLine line) reset_state 0 zero_words [] (xs ∷ [])

-- a byte more
whole_more : (line : SetLine) (x : ℕ) (xs : List ℕ) (r : Reading) → heard line x ≡ r → whole line (x ∷ xs) ≡ on_from whole program_log refusal r xs
unfolding passing program_log
whole_more line x xs (FirstLine next) e = on-from 0 reset_state zero_words line next (x ∷ xs) xs [] (ap (λ (r : Reading). passing r xs) e)
whole_more line x xs (Frames set) e =
    frames_from 0 reset_state zero_words line (x ∷ xs) xs set [] (ap (λ (r : Reading). passing r xs) e ∙ passing_frames set xs) ∙ rw (append-nil xs)
whole_more line x xs Over e = over-from 0 reset_state zero_words line (x ∷ xs) xs [] (ap (λ (r : Reading). passing r xs) e ∙ passing_over xs)

-- at the end of the input: an empty text has an empty log
whole_end : (line : SetLine) → whole line [] ≡ at_end whole program_log refusal line
unfolding pieces_log fed_input fed_past ended_input ended_first passing has_set program_log lines_from lines_outcome log_of
whole_end Nothing = refl
whole_end (Digit high) = refl
whole_end (Number set) = refl

pub input_joined : InputJoined
unfolding input_log
input_joined pieces = as_one 0 reset_state zero_words Nothing pieces ∙ by_first_lem whole program_log refusal whole_end whole_more (joined pieces)
