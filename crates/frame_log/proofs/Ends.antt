-- A text is fed as one piece; then its end ends a line that isn't empty, as an LF does.
use Rattle.std.proofs.Common.{◌≡◌, ℕ, ◌+◌, ◌<◌, List, [], ◌∷◌, length, sym, ap, ◌∙◌, append-nil, length-append}
use Rattle.machine.specs.State.{State}
use Rattle.controller.specs.Controller.{state_of}
use Rattle.lines.specs.Lines.{lines, lines_from}
use Rattle.lines.proofs.Lines.{lines_end}
use Rattle.output.proofs.Wrote.{wrote_then}
use Rattle.frame_log.specs.declared.Streaming.{Streaming}
use Rattle.frame_log.specs.Log.{TextOutcome, lines_outcome, after, text_outcome, PieceOutcome, piece_outcome}
use Rattle.frame_log.specs.Results.{begun_of, PieceLogged, TextLogged}
use Rattle.frame_log.proofs.TextOutcome.{log_append, told_length}
use Rattle.frame_log.proofs.Pieces.{piece_told}

module _ (st : State) (start : ℕ) (memory : List ℕ) where
  -- what an LF tells after the bytes `begun`, and what the end of the text does
  abbrev by_lf : List ℕ → TextOutcome
  by_lf begun = let f = piece_outcome st start memory begun (10 ∷ []) in record { state = f.state; memory = f.memory; answers = f.answers }

  pub end_is : (begun : List ℕ) → 0 < length begun → lines_outcome st start memory (lines_from begun []) ≡ by_lf begun
  unfolding lines_outcome piece_outcome
  end_is begun h = ap (lines_outcome st start memory) (lines_end begun h)

  -- what a text leaves fed, and what its end then tells
  abbrev fed : List ℕ → PieceOutcome
  fed text = piece_outcome st start memory [] text

  abbrev pub ended : List ℕ → TextOutcome
  ended text = lines_outcome (fed text).state start (fed text).memory (lines_from (fed text).begun [])

  pub text-fed : (text : List ℕ) → text_outcome st start memory text ≡ after (fed text).answers (ended text)
  text-fed text = ap (λ (l : List ℕ). lines_outcome st start memory (lines_from [] l)) (sym (append-nil text)) ∙ piece_told st start memory [] text []

  pub fed-answers : (text : List ℕ) → length (fed text).answers + length (ended text).answers ≡ length (lines text)
  fed-answers text = sym (length-append (fed text).answers (ended text).answers) ∙ ap (λ (t : TextOutcome). length t.answers) (sym (text-fed text)) ∙ told_length st start memory (lines text)

-- a piece, then the end
pub then_ends : (set start : ℕ) {f : PieceOutcome} {r q : Streaming} {memory' memory'' out out' out'' : List ℕ} {at : ℕ} → PieceLogged set f r memory' out at out'
    → TextLogged set (lines_outcome (state_of r.stream.controller) start memory' (lines_from (begun_of r.stream) [])) q memory'' out' r.next out''
    → TextLogged set (after f.answers (lines_outcome f.state start f.memory (lines_from f.begun []))) q memory'' out at out''
then_ends set start w e =
    let l = rw (w.state, w.memory, w.begun) at e in
    record { state = l.state; memory = l.memory; log = rw log_append (wrote_then w.log l.log) }
