-- A refused step changes nothing: codes 1 to 12.
use Prim.Native.Nat.{ℕ}
use mathlib.Core.Path.{◌≡◌, refl}
use mathlib.Core.Bool.{Bool, true, false, cond, not, ◌&&◌}
use mathlib.Core.List.{List}
use lib.Dec.{eqb}
use lib.ListN.{length}
use Rattle.machine.specs.State.{State}
use Rattle.machine.specs.Access.{access_of}
use Rattle.machine.specs.Interrupts.{line_of}
use Rattle.machine.specs.Code.{code_of}
use Rattle.machine.specs.Step.{step_of, respond, state_after, memory_after, answered, reply_of}
use Rattle.machine.specs.declared.Step.{Step}

pub line_cond : (b l : Bool) → (not b && l) ≡ cond b false l
line_cond true l = refl
line_cond false l = refl

pub refused : (st : State) (start : ℕ) (memory : List ℕ) (s : Step)
    → (let o = step_of st start memory s in let code = o.answer.code in
    eqb code 0 ≡ false → eqb code 13 ≡ false
    → o ≡ record { state = st; memory = memory; answer = record { code = code; address = 0; value = 0; enables = 0; line = cond (eqb code 1) false (line_of st.intcsr); addon_line = cond (eqb code 1) false (line_of st.aint); changed = 0 } })
unfolding step_of respond state_after memory_after answered reply_of
refused st start memory s e f =
    let code = code_of st start (length memory) (access_of s) in
    rw (e, f) (λ i. record { state = st; memory = memory; answer = record { code = code; address = 0; value = 0; enables = 0; line = line_cond (eqb code 1) (line_of st.intcsr) i; addon_line = line_cond (eqb code 1) (line_of st.aint) i; changed = 0 } })
