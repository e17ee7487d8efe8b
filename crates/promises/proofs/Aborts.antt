-- Only code 13 sets the master abort bit.
use Prim.Native.Nat.{ℕ}
use mathlib.Core.Path.{◌≡◌, refl, ap, ◌∙◌}
use mathlib.Core.Bool.{Bool, true, false, not, ◌&&◌, ◌||◌, and-false, or-true}
use mathlib.Core.List.{List}
use native.Mathlib.Omega.{arith}
use lib.Dec.{eqb}
use lib.ListN.{length}
use borrow.Author.Tests.{eqb-true}
use Rattle.machine.specs.Words.{bit}
use Rattle.machine.specs.Sides.{Side, pci, addon, either}
use Rattle.machine.specs.State.{State, lane}
use Rattle.machine.specs.Access.{Access, access_of, cycles}
use Rattle.machine.specs.Window.{inside}
use Rattle.machine.specs.Interrupts.{abort_in}
use Rattle.machine.specs.Code.{code_of, tests, is_abort_standing, is_no_memory, test_of}
use Rattle.machine.specs.Step.{step_of, respond, answered, Outcome}
use Rattle.promises.specs.Theorems.{OnlyAborts}
use Rattle.machine.specs.declared.Step.{Step}
use Rattle.laws.proofs.Tests.{neither, any_none, or_left, and_left, and_at}
use Rattle.laws.proofs.Bits.{bit_zero}
use Rattle.promises.proofs.Refused.{refused, aborted}
use Rattle.promises.proofs.First.{before, none_before, first_code}
use Rattle.promises.proofs.Events.{event_rule}
use Rattle.promises.proofs.Registers.{reset_rule}

one_of : (f : Side → Bool) → either f ≡ true → (side : Side) × (f side ≡ true)
one_of f e = by (f pci) refl e
  where
    by : (b : Bool) → f pci ≡ b → (b || f addon) ≡ true → (side : Side) × (f side ≡ true)
    by true q e = (pci, q)
    by false q e = (addon, e)

-- 11 is lower than 13: no abort stands where 13 is answered
no_abort : (st : State) (start words : ℕ) (x : Access) → is_no_memory st start words x ≡ true → is_abort_standing st x ≡ false → bit st.intcsr 20 ≡ false
unfolding is_no_memory is_abort_standing
no_abort st start words x e f =
    let one = one_of (λ side. cycles side x.kind && not (inside start words (lane side st).address)) e in
    let cycling = and_left (cycles one.0 x.kind) _ one.1 in
    or_left (bit st.intcsr 20) _ (and_at (cycles one.0 x.kind) (abort_in st.intcsr) cycling (neither (λ side. cycles side x.kind && abort_in st.intcsr) f one.0))

module _ (st : State) (start : ℕ) (memory : List ℕ) (s : Step) where
  abbrev o : Outcome
  o = step_of st start memory s

  clear-before : o.answer.code ≡ 13 → bit st.intcsr 20 ≡ false
  unfolding step_of respond answered
  clear-before e =
      let ts = tests st start (length memory) (access_of s) in
      let low = first_code st start (length memory) (access_of s) in
      let code : code_of st start (length memory) (access_of s) ≡ 13 = e in
      let applies : test_of 13 ts ≡ true = rw code at (low.applies (rw code)) in
      no_abort st start (length memory) (access_of s) applies (any_none (before 13 ts) (none_before 13 ts (rw code at low.first)) 10)

  never_both : (b : Bool) → (not b && b) ≡ false
  never_both true = refl
  never_both false = refl

  stays : (b c : Bool) → (not b && (b && c || false)) ≡ false
  stays true c = refl
  stays false c = refl

  by_code : (done absent reset : Bool) → eqb o.answer.code 0 ≡ done → eqb o.answer.code 13 ≡ absent → eqb s.kind 6 ≡ reset
      → ((not (bit st.intcsr 20) && bit o.state.intcsr 20) ≡ absent) × ((not (bit st.aint 21) && bit o.state.aint 21) ≡ (not (bit st.aint 21) && absent))
  by_code true true reset p q r = absurd (omega (arith, eqb-true o.answer.code 0 p, eqb-true o.answer.code 13 q))
  by_code true false true p q r =
      let all = reset_rule st start memory s (eqb-true o.answer.code 0 p) r in
      let after = ap (λ (t : Outcome). bit t.state.intcsr 20) all ∙ bit_zero 20 in
      let also = ap (λ (t : Outcome). bit t.state.aint 21) all ∙ bit_zero 21 in
      (rw after (and-false (not (bit st.intcsr 20))), rw also)
  by_code true false false p q r =
      let flags = (event_rule st start memory s).0 in
      (rw ((flags pci).abort, q) (stays (bit st.intcsr 20) _), rw ((flags addon).abort, q, and-false) (stays (bit st.aint 21) _))
  by_code false true reset p q r =
      let e = eqb-true o.answer.code 13 q in
      let a = (aborted st start memory s e).0 in
      (rw (a.intcsr 20, clear-before e), rw (a.aint 21, or-true))
  by_code false false reset p q r =
      let same = refused st start memory s p q in (
        rw (ap (λ (t : Outcome). bit t.state.intcsr 20) same) (never_both (bit st.intcsr 20)),
        rw (ap (λ (t : Outcome). bit t.state.aint 21) same, and-false) (never_both (bit st.aint 21)),
      )

pub only_aborts : OnlyAborts
only_aborts st start memory s =
    let o = step_of st start memory s in
    let both = by_code st start memory s (eqb o.answer.code 0) (eqb o.answer.code 13) (eqb s.kind 6) refl refl refl in
    record { intcsr = both.0; aint = both.1 }
