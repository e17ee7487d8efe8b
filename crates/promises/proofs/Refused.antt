-- Demand 1: a refused step changes nothing, and code 13 sets the abort bits and ends the rights only. Which code is given is in CodeTable.
use mathlib.Core.Path.{◌≡◌, refl}
use mathlib.Core.Bool.{true, or-true, true-or}
use Rattle.machine.specs.State.{State}
use Rattle.machine.specs.Interrupts.{line_of, interrupts_aborted}
use Rattle.machine.specs.Step.{not_aframe, step_of, respond, state_after, memory_after, answered, reply_of, aborted_state}
use Rattle.promises.specs.Theorems.{Refused, NotAFrameAnswer, Aborted, AbortOnly}
use Rattle.laws.proofs.KindNumbers.{aborted_reply_lem}
use Rattle.laws.proofs.Refused as laws
use Rattle.laws.proofs.Bits.{bit_raised}

-- ---- refusals

pub refused : Refused
refused = laws.refused

pub not_a_frame_answer : NotAFrameAnswer
unfolding not_aframe answered
not_a_frame_answer st = refl

-- ---- code 13

abort_only : (st : State) → AbortOnly st (aborted_state st)
unfolding aborted_state interrupts_aborted
abort_only st =
    record {
      intcsr = λ k. bit_raised st.intcsr true 20 k;
      aint = λ k. bit_raised st.aint true 21 k;
      others = refl;
    }

aborted_line : (st : State) → line_of (aborted_state st).intcsr ≡ true
unfolding aborted_state line_of interrupts_aborted
aborted_line st = simp (bit_raised st.intcsr true 20 20, or-true, true-or)

aborted_addon_line : (st : State) → line_of (aborted_state st).aint ≡ true
unfolding aborted_state line_of interrupts_aborted
aborted_addon_line st = simp (bit_raised st.aint true 21 21, or-true)

pub aborted : Aborted
unfolding step_of respond state_after memory_after answered reply_of
aborted st start memory s e =
    let after : (step_of st start memory s).state ≡ aborted_state st = rw e in (
      rw after (abort_only st),
      (rw e, rw e (λ i. record { code = 13; address = (aborted_reply_lem st s.kind i).address; value = (aborted_reply_lem st s.kind i).value; enables = (aborted_reply_lem st s.kind i).enables; line = aborted_line st i; addon_line = aborted_addon_line st i; changed = (aborted_reply_lem st s.kind i).changed })),
    )
