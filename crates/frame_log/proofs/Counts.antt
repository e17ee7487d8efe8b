-- The done cycles of a piece, turn by turn.
--     run_framed, run-turned      the run from a turn on
--     counts_more                 the count after another line
--     frames_told                 what the lines of a text say that begins with a piece
--     counts_joined               pieces joined
use Rattle.std.proofs.Common.{◌≡◌, ℕ, Option, Some, None, ◌+◌, ◌%◌, ◌^◌, ◌<◌, Bool, cond, List, [], ◌∷◌, ◌++◌, map, length, take, drop, sym, refl, ap, ◌∙◌, append_assoc, append-nil, arith, drop_of_length-le, length-take, take-take}
use native.Mathlib.Decide.{dec_le, dec_lt, ℕ_discrete}
use Rattle.machine.specs.State.{State}
use Rattle.machine.specs.Step.{Outcome, step_of}
use Rattle.machine.specs.Event.{Event}
use Rattle.machine.specs.Run.{RunOutcome, run}
use Rattle.machine.specs.declared.Step.{Step}
use Rattle.machine.specs.declared.Answer.{Answer}
use Rattle.lines.specs.Lines.{lines_from}
use Rattle.lines.proofs.Lines.{lines_lf, lines_other, lines_end, lines_stop}
use Rattle.frame.specs.Frame.{frame_of, framed_outcome}
use Rattle.frame_log.specs.declared.progress.Progress.{Progress}
use Rattle.frame_log.specs.Log.{frames_in, line_outcome, PieceOutcome, piece_outcome}
use Rattle.frame_log.specs.Promises.{joined, framed, steps_in}
use Rattle.frame_log.specs.Results.{begun_at, LinePromised}
use Rattle.frame_log.specs.Counts.{steps_of, events_of, is_done_cycle, cycles_of, piece_run, count_after, count_of, end_count_of, pieces_count, CountsJoined}
use Rattle.frame_log.proofs.Carried.{fed-lf, fed-other}
use Rattle.frame_log.proofs.Pieces.{frame_clip, same_more}
use Rattle.frame_log.proofs.Turns.{frames_lf, frames_other}

-- events before those of a run
abbrev pub after_run : List Event → RunOutcome → RunOutcome
after_run done r = record { state = r.state; memory = r.memory; events = done ++ r.events }

after_after : (xs ys : List Event) (r : RunOutcome) → after_run xs (after_run ys r) ≡ after_run (xs ++ ys) r
after_after xs ys r = rw (append_assoc xs ys r.events)

run_framed : (f : Option Step) (st : State) (start : ℕ) (memory : List ℕ) (steps : List Step)
    → (let o = framed_outcome f st start memory in run st start memory (framed f ++ steps) ≡ after_run (events_of f o.answer) (run o.state start o.memory steps))
unfolding framed_outcome
run_framed (Some s) st start memory steps = refl
run_framed None st start memory steps = refl

module _ (p q : Progress) (piece : List ℕ) (st : State) (start : ℕ) (memory : List ℕ) where
  -- the run of the lines from a place on, and what is carried past them
  abbrev runs : Progress → State → List ℕ → RunOutcome
  runs r st' memory' = piece_run st' start memory' (begun_at r) (drop r.at piece)

  abbrev left : Progress → State → List ℕ → List ℕ
  left r st' memory' = (piece_outcome st' start memory' (begun_at r) (drop r.at piece)).begun

  module _ (said : Option Step) (T : LinePromised p piece (Some said) q) (o : Outcome) (e : o ≡ framed_outcome said st start memory) where
    pub run_line : (done : List Event) → after_run done (runs p st memory) ≡ after_run (done ++ events_of said o.answer) (runs q o.state o.memory)
    run_line done =
        rw (T.tells.says, e)
        (ap (after_run done) (run_framed said st start memory (steps_of (frames_in (begun_at q) (drop q.at piece)))) ∙ after_after done _ _)

    pub begun_line : left p st memory ≡ left q o.state o.memory
    begun_line = ap (λ (f : PieceOutcome). f.begun) (T.tells.fed st start memory) ∙ rw (← e)

  module _ (T : LinePromised p piece None q) where
    pub run_none : (done : List Event) → after_run done (runs p st memory) ≡ record { state = st; memory = memory; events = done }
    unfolding frames_in
    run_none done = rw (T.tells.says, drop_of_length-le piece T.place, append-nil)

    pub begun_none : left p st memory ≡ begun_at q
    unfolding piece_outcome
    begun_none = ap (λ (f : PieceOutcome). f.begun) (T.tells.fed st start memory) ∙ rw (drop_of_length-le piece T.place)

cycles_append : (kind : ℕ) (xs ys : List Event) → cycles_of kind (xs ++ ys) ≡ cycles_of kind xs + cycles_of kind ys
unfolding cycles_of
cycles_append kind [] ys = omega arith
cycles_append kind (e ∷ xs) ys = omega (arith, cycles_append kind xs ys)

cycles_one : (kind : ℕ) (f : Option Step) (a : Answer) → cycles_of kind (events_of f a) ≡ cond (is_done_cycle kind f a) 1 0
unfolding cycles_of
cycles_one kind (Some s) a = omega arith
cycles_one kind None a = refl

pub counts_more : (kind first : ℕ) (done : List Event) (f : Option Step) (a : Answer) (n m : ℕ) (b : Bool)
    → n ≡ (first + cycles_of kind done) % 2 ^ 32 → b ≡ is_done_cycle kind f a → m ≡ (n + cond b 1 0) % 2 ^ 32 → m ≡ (first + cycles_of kind (done ++ events_of f a)) % 2 ^ 32
counts_more kind first done f a n m b p q e =
    let all : cycles_of kind (done ++ events_of f a) ≡ cycles_of kind done + cond b 1 0 =
    cycles_append kind done (events_of f a) ∙ ap (λ (k : ℕ). cycles_of kind done + k) (cycles_one kind f a) ∙ rw q in
    omega (arith, all)

-- ---- pieces joined

-- what lines say, of a line that has begun by its first 14 bytes
abbrev said : List (List ℕ) → List (Option Step)
said ls = map frame_of ls

frame_same : (l k : List ℕ) → take 14 l ≡ take 14 k → frame_of l ≡ frame_of k
frame_same l k e = sym (frame_clip l (dec_le (length l) 14)) ∙ ap frame_of e ∙ frame_clip k (dec_le (length k) 14)

end_same : (l k : List ℕ) → take 14 l ≡ take 14 k → Dec (0 < length l) → said (lines_from l []) ≡ said (lines_from k [])
end_same l k e (yes h) =
    let j : 0 < length k = omega (arith, length-take 14 l, length-take 14 k, ap length e) in
    rw (lines_end l h, lines_end k j) (λ i. frame_same l k e i ∷ [])
end_same l k e (no h) =
    let i : length l ≡ 0 = omega arith in
    let j : length k ≡ 0 = omega (arith, length-take 14 l, length-take 14 k, ap length e) in
    rw (lines_stop l i, lines_stop k j)

said_step : (l k : List ℕ) (x : ℕ) (xs : List ℕ) → take 14 l ≡ take 14 k → said (lines_from (l ++ (x ∷ [])) xs) ≡ said (lines_from (k ++ (x ∷ [])) xs) → Dec (x ≡ 10)
    → said (lines_from l (x ∷ xs)) ≡ said (lines_from k (x ∷ xs))
said_step l k x xs e ih (yes h) = rw (lines_lf l x xs h, lines_lf k x xs h) (λ i. frame_same l k e i ∷ said (lines_from [] xs))
said_step l k x xs e ih (no h) = rw (lines_other l x xs h, lines_other k x xs h) ih

said_same : (l k xs : List ℕ) → take 14 l ≡ take 14 k → said (lines_from l xs) ≡ said (lines_from k xs)
said_same l k [] e = end_same l k e (dec_lt 0 (length l))
said_same l k (x ∷ xs) e = said_step l k x xs e (said_same (l ++ (x ∷ [])) (k ++ (x ∷ [])) xs (same_more l k x e)) (ℕ_discrete x 10)

module _ (st : State) (start : ℕ) (memory begun : List ℕ) (x : ℕ) (xs b : List ℕ) where
  abbrev begun' : List ℕ
  begun' = take 14 (begun ++ (x ∷ []))

  told-step : Dec (x ≡ 10)
      → (let o = line_outcome st start memory begun in said (lines_from [] (xs ++ b)) ≡ frames_in [] xs ++ said (lines_from (piece_outcome o.state start o.memory [] xs).begun b))
      → said (lines_from begun' (xs ++ b)) ≡ frames_in begun' xs ++ said (lines_from (piece_outcome st start memory begun' xs).begun b)
      → said (lines_from begun (x ∷ (xs ++ b))) ≡ frames_in begun (x ∷ xs) ++ said (lines_from (piece_outcome st start memory begun (x ∷ xs)).begun b)
  told-step (yes e) h k =
      rw (lines_lf begun x (xs ++ b) e, frames_lf begun x xs e, fed-lf st start memory begun x xs e) (ap (λ (fs : List (Option Step)). frame_of begun ∷ fs) h)
  told-step (no e) h k =
      rw (lines_other begun x (xs ++ b) e, frames_other begun x xs e, fed-other st start memory begun x xs e)
      (said_same (begun ++ (x ∷ [])) begun' (xs ++ b) (sym (take-take 14 14 (begun ++ (x ∷ [])) (omega arith))) ∙ k)

frames_told : (st : State) (start : ℕ) (memory begun a b : List ℕ)
    → said (lines_from begun (a ++ b)) ≡ frames_in begun a ++ said (lines_from (piece_outcome st start memory begun a).begun b)
unfolding piece_outcome frames_in
frames_told st start memory begun [] b = refl
frames_told st start memory begun (x ∷ a) b =
    let o = line_outcome st start memory begun in
    told-step st start memory begun x a b (ℕ_discrete x 10) (frames_told o.state start o.memory [] a b) (frames_told st start memory (take 14 (begun ++ (x ∷ []))) a b)

steps_said : (ls : List (List ℕ)) → steps_in ls ≡ steps_of (said ls)
unfolding steps_in
steps_said [] = refl
steps_said (l ∷ ls) = ap (λ (ss : List Step). framed (frame_of l) ++ ss) (steps_said ls)

steps_append : (fs gs : List (Option Step)) → steps_of (fs ++ gs) ≡ steps_of fs ++ steps_of gs
steps_append [] gs = refl
steps_append (f ∷ fs) gs = ap (λ (ss : List Step). framed f ++ ss) (steps_append fs gs) ∙ sym (append_assoc (framed f) (steps_of fs) (steps_of gs))

run_append : (st : State) (start : ℕ) (memory : List ℕ) (xs ys : List Step)
    → (let r = run st start memory xs in run st start memory (xs ++ ys) ≡ after_run r.events (run r.state start r.memory ys))
run_append st start memory [] ys = refl
run_append st start memory (s ∷ xs) ys =
    let o = step_of st start memory s in
    ap (after_run (record { step = s; answer = o.answer } ∷ [])) (run_append o.state start o.memory xs ys)

count_then_lem : (r : RunOutcome) (done : List Event) (begun : List ℕ) (w n : ℕ)
    → count_after r begun ((w + cycles_of 4 done) % 2 ^ 32) ((n + cycles_of 5 done) % 2 ^ 32) ≡ count_after (after_run done r) begun w n
count_then_lem r done begun w n =
    let both : (kind m : ℕ) → ((m + cycles_of kind done) % 2 ^ 32 + cycles_of kind r.events) % 2 ^ 32 ≡ (m + cycles_of kind (done ++ r.events)) % 2 ^ 32 =
    λ kind m. omega (arith, cycles_append kind done r.events) in
    λ i. record { state = r.state; memory = r.memory; begun = begun; writes = both 4 w i; reads = both 5 n i }

-- a piece, then the rest of the text
pub count_piece : (st : State) (start : ℕ) (memory begun p b : List ℕ) (w n : ℕ)
    → (let c = count_of st start memory begun p w n in
    count_after (run c.state start c.memory (steps_in (lines_from c.begun b))) [] c.writes c.reads ≡ count_after (run st start memory (steps_in (lines_from begun (p ++ b)))) [] w n)
unfolding count_of
count_piece st start memory begun p b w n =
    let r = piece_run st start memory begun p in
    let begun' = (piece_outcome st start memory begun p).begun in
    let rest = steps_in (lines_from begun' b) in
    let steps : steps_in (lines_from begun (p ++ b)) ≡ steps_of (frames_in begun p) ++ rest =
    steps_said (lines_from begun (p ++ b)) ∙ ap steps_of (frames_told st start memory begun p b) ∙ steps_append (frames_in begun p) _ ∙ ap (λ (ss : List Step). steps_of (frames_in begun p) ++ ss) (sym (steps_said (lines_from begun' b))) in
    count_then_lem (run r.state start r.memory rest) r.events [] w n
    ∙ ap (λ (q : RunOutcome). count_after q [] w n) (sym (ap (run st start memory) steps ∙ run_append st start memory (steps_of (frames_in begun p)) rest))

counts_from : (st : State) (start : ℕ) (memory begun : List ℕ) (pieces : List (List ℕ)) (w n : ℕ)
    → pieces_count st start memory begun pieces w n ≡ count_after (run st start memory (steps_in (lines_from begun (joined pieces)))) [] w n
unfolding pieces_count end_count_of
counts_from st start memory begun [] w n = refl
counts_from st start memory begun (p ∷ more) w n =
    let c = count_of st start memory begun p w n in
    counts_from c.state start c.memory c.begun more c.writes c.reads ∙ count_piece st start memory begun p (joined more) w n

pub counts_joined : CountsJoined
counts_joined st start memory pieces = counts_from st start memory [] pieces 0 0

-- ---- the end of the text

-- a line that has begun is ended as by an LF
pub end_counts : (st : State) (start : ℕ) (memory begun : List ℕ) (w n : ℕ) → 0 < length begun → count_of st start memory begun (10 ∷ []) w n ≡ end_count_of st start memory begun w n
unfolding count_of end_count_of frames_in piece_outcome
end_counts st start memory begun w n h =
    ap (λ (steps : List Step). count_after (run st start memory steps) [] w n) (sym (steps_said (lines_from begun []) ∙ ap (λ (ls : List (List ℕ)). steps_of (said ls)) (lines_end begun h)))

-- no line has begun
pub end_none : (st : State) (start : ℕ) (memory : List ℕ) (w n : ℕ) → w < 2 ^ 32 → n < 2 ^ 32
    → end_count_of st start memory [] w n ≡ record { state = st; memory = memory; begun = []; writes = w; reads = n }
unfolding end_count_of cycles_of steps_in
end_none st start memory w n h k =
    let low : (m : ℕ) → m < 2 ^ 32 → (m + 0) % 2 ^ 32 ≡ m = λ m l. omega arith in
    ap (λ (ls : List (List ℕ)). count_after (run st start memory (steps_in ls)) [] w n) (lines_stop [] refl)
    ∙ (λ i. record { state = st; memory = memory; begun = []; writes = low w h i; reads = low n k i })
