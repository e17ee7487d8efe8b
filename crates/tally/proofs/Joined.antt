-- An input in pieces comes to what the whole input comes to.
--     joined_at    pieces, by where the reading comes with all of them
use Prim.Native.Nat.{ℕ}
use mathlib.Core.Path.{◌≡◌, refl, sym, ap, ◌∙◌}
use mathlib.Core.List.{List, [], ◌∷◌, ◌++◌}
use mathlib.Core.Bool.{cond}
use Rattle.machine.specs.Run.{run}
use Rattle.lines.specs.Lines.{lines_from}
use Rattle.frame_log.specs.Promises.{joined, steps_in}
use Rattle.frame_log.specs.Counts.{CountOutcome, cycles_of, count_after, end_count_of}
use Rattle.frame_log.proofs.Counts.{count_piece}
use Rattle.input.specs.declared.Reading.{Reading}
use Rattle.input.specs.declared.Reading.TheVariants.{FirstLine, Frames, Over}
use Rattle.input.specs.declared.SetLine.{SetLine}
use Rattle.input.specs.declared.SetLine.TheVariants.{Nothing, Digit, Number}
use Rattle.input.specs.Input.{has_set, heard, Passing, passing}
use Rattle.input.proofs.Passing.{passing_none, passing_frames, passing_over, passing_append, passing_rest}
use Rattle.input.proofs.ByFirst.{on_from, at_end, by_first_lem}
use Rattle.std.proofs.Common.{Option, None}
use Rattle.frame_log.specs.declared.Cycles.{Cycles}
use Rattle.tally.specs.Tally.{total_of, cycles_in, total_in, TallyOutcome, count_past, fed_tally, ended_by, ended_tally, pieces_total, not_begun, TallyJoined}

-- what an input comes to, by where the reading has come and the bytes past the set line, all at once
abbrev final : CountOutcome → ℕ → Reading → List ℕ → Option Cycles
final c start (FirstLine line) rest = cond (has_set line) (total_of c) None
final c start (Frames set) rest = total_of (count_after (run c.state start c.memory (steps_in (lines_from c.begun rest))) [] c.writes c.reads)
final c start Over rest = None

abbrev final_of : CountOutcome → ℕ → Passing → Option Cycles
final_of c start p = final c start p.reading p.rest

abbrev at : Reading → CountOutcome → TallyOutcome
at r c = record { reading = r; count = c }

ended_at : (c : CountOutcome) (start : ℕ) (r : Reading) → (ended_tally (at r c) start).total ≡ final c start r []
unfolding ended_by end_count_of
ended_at c start (FirstLine line) = refl
ended_at c start (Frames set) = refl
ended_at c start Over = refl

-- after a piece, by where the reading comes with it; the rest of it and what follows
piece_at : (c : CountOutcome) (start : ℕ) (r : Reading) (rest b : List ℕ) → ((line : SetLine) → r ≡ FirstLine line → rest ≡ [])
    → final_of (count_past r c start rest) start (passing r b) ≡ final_of c start (passing r (rest ++ b))
unfolding count_past
piece_at c start (FirstLine line) rest b h = rw (h line refl)
piece_at c start (Frames set) rest b h =
    rw (passing_frames set b, passing_frames set (rest ++ b)) (ap total_of (count_piece c.state start c.memory c.begun rest b c.writes c.reads))
piece_at c start Over rest b h = rw (passing_over b, passing_over (rest ++ b))

joined_at : (start : ℕ) (pieces : List (List ℕ)) (r : Reading) (c : CountOutcome) → pieces_total (at r c) start pieces ≡ final_of c start (passing r (joined pieces))
unfolding pieces_total fed_tally
joined_at start [] r c = ended_at c start r ∙ rw (passing_none r)
joined_at start (p ∷ more) r c =
    let q = passing r p in
    joined_at start more q.reading (count_past q.reading c start q.rest)
    ∙ piece_at c start q.reading q.rest (joined more) (λ line e. passing_rest r p line e)
    ∙ ap (final_of c start) (sym (passing_append r p (joined more)))

-- ---- by the first line

abbrev whole : SetLine → List ℕ → Option Cycles
whole line xs = final_of not_begun.count 0 (passing (FirstLine line) xs)

whole_more : (line : SetLine) (x : ℕ) (xs : List ℕ) (r : Reading) → heard line x ≡ r → whole line (x ∷ xs) ≡ on_from whole (λ set. cycles_in) None r xs
unfolding passing cycles_in
whole_more line x xs (FirstLine next) e = ap (λ (r : Reading). final_of not_begun.count 0 (passing r xs)) e
whole_more line x xs (Frames set) e = ap (λ (r : Reading). final_of not_begun.count 0 (passing r xs)) e ∙ ap (final_of not_begun.count 0) (passing_frames set xs)
whole_more line x xs Over e = ap (λ (r : Reading). final_of not_begun.count 0 (passing r xs)) e ∙ ap (final_of not_begun.count 0) (passing_over xs)

whole_end : (line : SetLine) → whole line [] ≡ at_end whole (λ set. cycles_in) None line
unfolding passing has_set cycles_in lines_from steps_in cycles_of
whole_end Nothing = refl
whole_end (Digit high) = refl
whole_end (Number set) = refl

pub tally_joined : TallyJoined
unfolding total_in
tally_joined pieces = joined_at 0 pieces (FirstLine Nothing) not_begun.count ∙ by_first_lem whole (λ set. cycles_in) None whole_end whole_more (joined pieces)
