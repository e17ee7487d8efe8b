-- What a read answers, what a step leaves of the memory, and what a read cycle takes from it.
use Prim.Native.Nat.{ℕ, ◌<◌}
use mathlib.Core.Path.{◌≡◌, refl, ap, ◌∙◌}
use mathlib.Core.Bool.{Bool, true, false, ◌||◌, cond}
use mathlib.Core.List.{List}
use lib.Dec.{eqb}
use lib.ListN.{length, get_or, set}
use lib.Seq.{get_or-set_same}
use borrow.Author.Tests.{eqb-true}
use Rattle.machine.specs.Words.{bit, merged}
use Rattle.machine.specs.Sides.{pci, addon}
use Rattle.machine.specs.State.{State}
use Rattle.machine.specs.Access.{access_of, kind_of}
use Rattle.machine.specs.Fifos.{front}
use Rattle.machine.specs.Window.{place_of}
use Rattle.machine.specs.Cycles.{low_enables, cycle_word, stored}
use Rattle.machine.specs.Code.{code_of}
use Rattle.machine.specs.Step.{register, read_value, done_reply, reply_of, answered, memory_after, respond, step_of}
use Rattle.promises.specs.Readings.{ReadAnswers, WriteCycleStores, MemoryRule, ReadCycleWord}
use Rattle.machine.specs.declared.Step.{Step}
use Rattle.laws.proofs.Done.{place_inside}
use Rattle.laws.proofs.Tests.{and_left, and_right}
use Rattle.laws.proofs.KindNumbers.{named}
use Rattle.promises.proofs.Bytes.{bit-shown, bit-merged}
use Rattle.promises.proofs.Readings.{low_enables_lem}

-- ---- reads

read_value_lem : (st : State) (start : ℕ) (memory : List ℕ) (s : Step) → (eqb s.kind 0 || eqb s.kind 2) ≡ true → eqb s.offset 0x20 ≡ false
    → (done_reply (kind_of s.kind) st start memory (access_of s)).value ≡ register (cond (eqb s.kind 0) pci addon) st s.offset
unfolding done_reply read_value
read_value_lem st start memory s r p = by (eqb s.kind 0) refl
  where
    by : (b : Bool) → eqb s.kind 0 ≡ b → (done_reply (kind_of s.kind) st start memory (access_of s)).value ≡ register (cond b pci addon) st s.offset
    by true e = rw (eqb-true s.kind 0 e, p)
    by false e = rw (eqb-true s.kind 2 (rw e at r), p)

pub read_answers : ReadAnswers
unfolding step_of respond answered reply_of
read_answers st start memory s e r p = rw e (read_value_lem st start memory s r p)

-- ---- memory

stores : (st : State) (start : ℕ) (memory : List ℕ) → place_of start st.from_addon.address < length memory → WriteCycleStores st start memory (stored st start memory)
unfolding stored
stores st start memory p =
    let at = place_of start st.from_addon.address in
    let w = merged (get_or memory at 0) (front st.from_addon.words) (low_enables st.from_addon.count) in
    let there : get_or (set memory at w) at 0 ≡ w = get_or-set_same memory at w 0 p in
    record {
      inside = p;
      elsewhere = rw there;
      bytes = λ k h. rw (there, bit-merged k h, low_enables_lem);
    }

pub memory_rule : MemoryRule
unfolding step_of respond answered memory_after
memory_rule st start memory s =
    let x = access_of s in
    let code = code_of st start (length memory) x in
    let c = (named s.kind).write_cycle in (
      λ e. rw (c, e),
      λ e.
          rw (c, e)
          (stores st start memory
          (place_inside addon st start (length memory) x (eqb-true code 0 (and_left (eqb code 0) (eqb s.kind 4) e)) (c ∙ and_right (eqb code 0) (eqb s.kind 4) e))),
    )

pub read_cycle_word : ReadCycleWord
unfolding step_of respond answered reply_of done_reply cycle_word
read_cycle_word st start memory s e r =
    let five = eqb-true s.kind 5 r in
    let word : (step_of st start memory s).answer.value ≡ cycle_word pci st start memory = rw (e, five) in
    record {
      inside = place_inside pci st start (length memory) (access_of s) e ((named s.kind).read_cycle ∙ r);
      bytes = λ k h. ap (λ (w : ℕ). bit w k) word ∙ rw (bit-shown k h, low_enables_lem);
    }
