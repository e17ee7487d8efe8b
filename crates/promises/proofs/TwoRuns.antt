-- Two runs from reset that differ at most in the data of FIFO port writes.
use Prim.Native.Nat.{ℕ}
use mathlib.Core.Path.{◌≡◌, refl, sym, ap, ◌∙◌}
use mathlib.Core.Bool.{Bool, true, false, cond, ◌&&◌, ◌||◌, and-false}
use mathlib.Core.List.{List, [], ◌∷◌, head-eq_of_cons-eq, tail-eq_of_cons-eq}
use lib.Dec.{eqb}
use lib.ListN.{length}
use borrow.Author.Tests.{eqb-true}
use Rattle.machine.specs.Words.{bit}
use Rattle.machine.specs.Sides.{Side, pci, addon}
use Rattle.machine.specs.State.{State, held, reset_state}
use Rattle.machine.specs.Step.{step_of}
use Rattle.machine.specs.Event.{Event, logged, logged_answers}
use Rattle.machine.specs.Run.{RunOutcome, run}
use Rattle.promises.specs.Queues.{Alike, MovesAlike, NoneClears}
use Rattle.promises.specs.Account.{is_done, is_kind, command, clears, words_in, words_out, move_of, moves_of, tally, AlikeButPortData, AllAlike, no_steps, one_more, NoClear, SameAccepted}
use Rattle.promises.specs.Theorems.{TwoRunsSince, TwoRuns}
use Rattle.machine.specs.declared.Step.{Step}
use Rattle.promises.proofs.Queues.{queues_agree}
use Rattle.promises.proofs.FifoAccount.{keeps}

-- ---- two events alike

record Twin (e f : Event) : Type 0 where
  steps : AlikeButPortData e.step f.step
  same : logged e.answer ≡ logged f.answer

data Twins : List Event → List Event → Type 0 where
  nil : Twins [] []
  cons : {e f : Event} {es fs : List Event} → Twin e f → Twins es fs → Twins (e ∷ es) (f ∷ fs)

twins : {ss ts : List Step} (st st' : State) (start : ℕ) (m m' : List ℕ) → AllAlike ss ts
    → logged_answers (run st start m ss).events ≡ logged_answers (run st' start m' ts).events → Twins (run st start m ss).events (run st' start m' ts).events
twins st st' start m m' no_steps e = nil
twins st st' start m m' (one_more {s = s} {t = t} a al) e =
    let o = step_of st start m s in
    let p = step_of st' start m' t in
    cons (record { steps = a; same = head-eq_of_cons-eq e }) (twins o.state p.state start o.memory p.memory al (tail-eq_of_cons-eq e))

-- a command does not hang on the data of a FIFO port write
abbrev ordered : ℕ → ℕ → ℕ → ℕ → ℕ → ℕ → Bool
ordered w b k o n v = eqb k w && eqb o 0x3C && bit n 3 && bit v b

ordered_value : (w b k o n u v : ℕ) → ((eqb o 0x20 && (eqb k 1 || eqb k 3)) ≡ false → u ≡ v) → (c : Bool) → eqb o 0x3C ≡ c → ordered w b k o n u ≡ ordered w b k o n v
ordered_value w b k o n u v h true e = ap (ordered w b k o n) (h (rw (eqb-true o 0x3C e)))
ordered_value w b k o n u v h false e = rw (e, and-false (eqb k w))

command_alike : (w b : ℕ) (e f : Event) → Twin e f → command w b e ≡ command w b f
command_alike w b e f p =
    let a = p.steps in
    let s = e.step in
    ordered_value w b s.kind s.offset s.enables s.value f.step.value a.value (eqb s.offset 0x3C) refl
    ∙ (λ i. ordered w b (a.kind i) (a.offset i) (a.enables i) f.step.value)

clears_alike : (side : Side) (e f : Event) → Twin e f → clears side e ≡ clears side f
clears_alike pci e f p = λ i. eqb (p.steps.kind i) 6 || (command_alike 1 25 e f p i || command_alike 3 26 e f p i)
clears_alike addon e f p = λ i. eqb (p.steps.kind i) 6 || (command_alike 1 26 e f p i || command_alike 3 25 e f p i)

out_alike : (side : Side) (e f : Event) → Twin e f → words_out side e ≡ words_out side f
out_alike pci e f p = λ i. cond (eqb (p.steps.kind i) 2 && eqb (p.steps.offset i) 0x20) ((p.same i).value ∷ []) []
out_alike addon e f p =
    λ i. cond (eqb (p.steps.kind i) 4 || eqb (p.steps.kind i) 0 && eqb (p.steps.offset i) 0x20) ((p.same i).value ∷ []) []

-- how many words a done step lets in does not hang on the data
one_or_none : (c w : Bool) (v u v' u' : ℕ) → length (cond c (v ∷ []) (cond w (u ∷ []) [])) ≡ length (cond c (v' ∷ []) (cond w (u' ∷ []) []))
one_or_none true w v u v' u' = refl
one_or_none false true v u v' u' = refl
one_or_none false false v u v' u' = refl

in_length : (side : Side) (e f : Event) → Twin e f → length (words_in side e) ≡ length (words_in side f)
in_length pci e f p =
    one_or_none (is_kind 5 e) (is_kind 1 e && eqb e.step.offset 0x20) e.answer.value e.step.value f.answer.value f.step.value
    ∙ (λ i. length (cond (eqb (p.steps.kind i) 5) (f.answer.value ∷ []) (cond (eqb (p.steps.kind i) 1 && eqb (p.steps.offset i) 0x20) (f.step.value ∷ []) [])))
in_length addon e f p =
    one_or_none false (is_kind 3 e && eqb e.step.offset 0x20) 0 e.step.value 0 f.step.value
    ∙ (λ i. length (cond (eqb (p.steps.kind i) 3 && eqb (p.steps.offset i) 0x20) (f.step.value ∷ []) []))

done_length : (d : Bool) (xs us : List ℕ) → length xs ≡ length us → length (cond d xs []) ≡ length (cond d us [])
done_length true xs us e = e
done_length false xs us e = refl

-- ---- so they are moves alike

move_alike : (side : Side) (e f : Event) → Twin e f → Alike (move_of side e) (move_of side f)
move_alike side e f p =
    let done : is_done e ≡ is_done f = λ i. eqb (p.same i).code 0 in
    record {
      clears = λ i. done i && clears_alike side e f p i;
      much = done_length (is_done e) (words_in side e) (words_in side f) (in_length side e f p) ∙ (λ i. length (cond (done i) (words_in side f) []));
      handed_out = λ i. cond (done i) (out_alike side e f p i) [];
    }

all_alike : (side : Side) {es fs : List Event} → Twins es fs → MovesAlike (moves_of side es) (moves_of side fs)
all_alike side nil = tt
all_alike side (cons {e = e} {f = f} p ps) = (move_alike side e f p, all_alike side ps)

none_clears : (side : Side) (es : List Event) → NoClear side es → NoneClears (moves_of side es)
none_clears side [] h = tt
none_clears side (e ∷ es) h = (h.0, none_clears side es h.1)

-- ---- the law of two queues

module _ (side : Side) (start : ℕ) (memory : List ℕ) (ss ts : List Step) (a : AllAlike ss ts) where
  abbrev r : RunOutcome
  r = run reset_state start memory ss

  abbrev q : RunOutcome
  q = run reset_state start memory ts

  agree : logged_answers r.events ≡ logged_answers q.events → held side r.state ≡ held side q.state
      → ((tally side r.events).let_in ≡ (tally side q.events).let_in) × (NoneClears (moves_of side r.events) → SameAccepted side r.events q.events)
  agree e h =
      let k = keeps side start memory ss in
      let l = keeps side start memory ts in
      queues_agree ℕ 8 (moves_of side r.events) (moves_of side q.events) (all_alike side (twins reset_state reset_state start memory memory a e)) k.makes l.makes (k.holds ∙ h ∙ sym l.holds)

pub two_runs_since : TwoRunsSince
two_runs_since side start memory ss ts a e h = (agree side start memory ss ts a e h).0

pub two_runs : TwoRuns
two_runs start memory ss ts a e h u side = (agree side start memory ss ts a e (h side)).1 (none_clears side (run reset_state start memory ss).events (u side))
