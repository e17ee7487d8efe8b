-- What the proofs of cycles need of the machine's rules.
use Prim.Native.Nat.{ℕ, ◌≤◌, ◌<◌}
use mathlib.Core.Path.{◌≡◌, refl, ◌∙◌}
use mathlib.Core.Bool.{Bool, true, false, cond, not, ◌&&◌, ◌||◌}
use lib.Dec.{leb}
use mathlib.Core.List.{List}
use native.Mathlib.Omega.{arith}
use lib.Bits.{xor_zero_r}
use lib.ListN.{length}
use borrow.Author.Tests.{ltb-true, leb-true, not-false}
use Rattle.machine.specs.Words.{bit}
use Rattle.machine.specs.Sides.{Side, pci, addon, same_side}
use Rattle.machine.specs.State.{State, lane, held}
use Rattle.machine.specs.Access.{Access, cycle, cycles}
use Rattle.machine.specs.Window.{place_of, inside}
use Rattle.machine.specs.Fifos.{amount}
use Rattle.machine.specs.Mailboxes.{changes, marks_after, mail_after}
use Rattle.machine.specs.Mcsr.{four_bit, mcsr_after}
use Rattle.machine.specs.Interrupts.{interrupts_after}
use Rattle.machine.specs.Cycles.{needed, is_ready, stored, address_after, count_after, right_after}
use Rattle.machine.specs.Rights.{settled}
use Rattle.machine.specs.Code.{cycle_tests, is_not_ready, is_no_memory}
use Rattle.machine.specs.Step.{Reply, done_reply, aborted_reply, reply_of, answered, moved_state, done_state, aborted_state, state_after, memory_after, respond}
use Rattle.machine.specs.declared.Answer.{Answer}
use Rattle.laws.proofs.Tests.{none_applies, neither, and_at}
use Rattle.laws.proofs.Done.{room_to_read}
use Rattle.step.proofs.Laws.{not_done_lem}
use Rattle.refusal.specs.Codes.{cycle_code, cycle_by}
use Rattle.step.specs.Parts.{settled_outcome, lane_changed, without_front, with_last, passed}

same : (side : Side) → same_side side side ≡ true
same pci = refl
same addon = refl

at_least_one : (four : Bool) → 1 ≤ cond four 4 1
at_least_one true = omega arith
at_least_one false = omega arith

-- ---- a cycle that no test refuses

-- code 13: its address is inside
pub cycle_inside : (side : Side) (st : State) (start words : ℕ) → cycle_code side st start words ≡ 0 → place_of start (lane side st).address < words
unfolding is_no_memory
cycle_inside side st start words e =
    let none = none_applies (cycle_tests st start words (cycle_by side 0 0 0)) refl e 13 in
    ltb-true _ words
    (not-false _ (and_at (cycles side (cycle side)) _ (same side) (neither (λ of. cycles of (cycle side) && not (inside start words (lane of st).address)) none side)))

ready : (side : Side) (st : State) (start words : ℕ) → cycle_code side st start words ≡ 0 → is_not_ready st (cycle_by side 0 0 0) ≡ false
ready side st start words e = none_applies (cycle_tests st start words (cycle_by side 0 0 0)) refl e 12

word_to_write : (st : State) → is_not_ready st (cycle_by addon 0 0 0) ≡ false → 0 < length (held addon st)
unfolding is_not_ready is_ready
word_to_write st e =
    let some = leb-true (needed addon st.mcsr st.from_addon.right) (amount addon (held addon st)) (not-false _ e) in
    omega (arith, at_least_one (bit st.mcsr 9 && not st.from_addon.right))

pub write-cycle-word : (st : State) (start words : ℕ) → cycle_code addon st start words ≡ 0 → 0 < length (held addon st)
write-cycle-word st start words e = word_to_write st (ready addon st start words e)

pub read-cycle-room : (st : State) (start words : ℕ) → cycle_code pci st start words ≡ 0 → length (held pci st) < 8
read-cycle-room st start words e = room_to_read pci st (cycle_by pci 0 0 0) (ready pci st start words e) refl

-- ---- what it leaves

-- a cycle that was ready where four are asked for had four, or the right: so the right that it leaves is had or asked for
earned : (right four : Bool) (n : ℕ) → leb (cond (four && not right) 4 1) n ≡ true → (right || four) ≡ cond (four && leb 4 n) true right
earned true true n e = same-either (leb 4 n)
  where
    same-either : (b : Bool) → true ≡ cond b true true
    same-either true = refl
    same-either false = refl
earned true false n e = refl
earned false true n e = rw e
earned false false n e = refl

pub right_after_lem : (side : Side) (st : State) (start words : ℕ) → cycle_code side st start words ≡ 0
    → ((lane side st).right || bit st.mcsr (four_bit side)) ≡ cond (bit st.mcsr (four_bit side) && leb 4 (amount side (held side st))) true (lane side st).right
unfolding is_not_ready is_ready
right_after_lem side st start words e =
    earned (lane side st).right (bit st.mcsr (four_bit side)) (amount side (held side st))
    (not-false _ (and_at (cycles side (cycle side)) _ (same side) (neither (λ of. cycles of (cycle side) && not (is_ready of st)) (ready side st start words e) side)))

module _ (st : State) (start words : ℕ) (offset enables value word : ℕ) where
  pub write-cycle-state : cycle_code addon st start words ≡ 0 → passed addon (lane_changed addon without_front st) ≡ moved_state st (cycle_by addon offset enables value) word
  unfolding moved_state mail_after changes marks_after address_after count_after right_after interrupts_after mcsr_after
  write-cycle-state e = rw (xor_zero_r, right_after_lem addon st start words e)

  pub read-cycle-state : cycle_code pci st start words ≡ 0 → passed pci (lane_changed pci (with_last word) st) ≡ moved_state st (cycle_by pci offset enables value) word
  unfolding moved_state mail_after changes marks_after address_after count_after right_after interrupts_after mcsr_after
  read-cycle-state e = rw (xor_zero_r, right_after_lem pci st start words e)

-- ---- what it brings about

module _ (st : State) (start : ℕ) (memory : List ℕ) (x : Access) (code : ℕ) where
  pub done-write-cycle : (after : State) (reply : Reply) (answer : Answer) (memory' : List ℕ)
      → code ≡ 0 → x.kind ≡ cycle addon → reply ≡ done_reply x.kind st start memory x → after ≡ moved_state st x reply.value → memory' ≡ stored st start memory
      → answer ≡ answered after 0 reply → settled_outcome (record { state = after; memory = memory'; answer = answer }) ≡ respond st start memory x code
  unfolding respond reply_of state_after memory_after done_state answered settled settled_outcome
  done-write-cycle after reply answer memory' zero k r a m w = rw (zero, w) (simp (← r, ← a, m) (rw k))

  pub abort-step : (address : ℕ) → code ≡ 13 → record { address = address; value = 0; enables = 0; changed = 0 } ≡ aborted_reply x.kind st
      → settled_outcome (record { state = aborted_state st; memory = memory; answer = answered (aborted_state st) 13 (record { address = address; value = 0; enables = 0; changed = 0 }) }) ≡ respond st start memory x code
  unfolding respond reply_of state_after memory_after
  abort-step address e r = not_done_lem (aborted_state st) memory 13 _ (λ z. omega arith) ∙ rw (e, r)
