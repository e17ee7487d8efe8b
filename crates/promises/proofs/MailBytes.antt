-- What the mailbox bytes hold.
use Prim.Native.Nat.{ℕ, zero, suc, ◌*◌, ◌/◌, ◌%◌, ◌<◌}
use mathlib.Core.Path.{◌≡◌, refl, ap, ◌∙◌}
use mathlib.Core.Bool.{Bool, true, false, cond, ◌&&◌, or-false}
use mathlib.Core.List.{List, [], ◌∷◌}
use native.Mathlib.Omega.{arith}
use native.Mathlib.Nat.{zero-div}
use lib.Dec.{eqb, ltb, eqb-suc-zero}
use lib.ListN.{length, get_or, set, length-set, get_or-replicate}
use lib.Seq.{get_or-set_same, get_or-set_other}
use borrow.Author.Tests.{eqb-true, eqb-false}
use Rattle.machine.specs.Words.{bit, merged}
use Rattle.machine.specs.State.{State, reset_state}
use Rattle.machine.specs.Access.{Access, access_of, is_write_by, is_reset}
use Rattle.machine.specs.Offsets.{is_mailbox, writer}
use Rattle.machine.specs.Mailboxes.{marks_at, fills, mail_after}
use Rattle.machine.specs.Code.{code_of}
use Rattle.machine.specs.Rights.{settled}
use Rattle.machine.specs.Step.{reply_of, state_after, step_of, respond, answered, moved_state, done_state, aborted_state}
use Rattle.machine.specs.Event.{Event}
use Rattle.machine.specs.Run.{run}
use Rattle.promises.specs.Account.{byte_of, byte_after, byte_from}
use Rattle.promises.specs.Theorems.{MailBytes}
use Rattle.machine.specs.declared.Step.{Step}
use Rattle.laws.proofs.Tests.{and_right}
use Rattle.promises.proofs.Numbers.{reset-is}
use Rattle.promises.proofs.After.{part-refused, part-done}
use Rattle.laws.proofs.Marks.{fills_byte, bit_marks}
use Rattle.promises.proofs.Bytes.{byte_merged}
use Rattle.promises.proofs.MailAccount.{fills-is}

-- ---- a done step that is no reset

module _ (k : ℕ) (h : k < 32) (mail : List ℕ) (eight : length mail ≡ 8) where
  -- a write of the mailbox at an offset
  byte-set : (o v e : ℕ) → o % 4 ≡ 0
      → byte_of (k % 4) (get_or (set mail (o / 4) (merged (get_or mail (o / 4) 0) v e)) (k / 4) 0)
      ≡ cond (eqb o (k / 4 * 4) && bit e (k % 4)) (byte_of (k % 4) v) (byte_of (k % 4) (get_or mail (k / 4) 0))
  byte-set o v e four = here (eqb o (k / 4 * 4)) refl
    where
      here : (b : Bool) → eqb o (k / 4 * 4) ≡ b
          → byte_of (k % 4) (get_or (set mail (o / 4) (merged (get_or mail (o / 4) 0) v e)) (k / 4) 0)
          ≡ cond (b && bit e (k % 4)) (byte_of (k % 4) v) (byte_of (k % 4) (get_or mail (k / 4) 0))
      here true q =
          let i = eqb-true o (k / 4 * 4) q in
          let at : o / 4 ≡ k / 4 = omega arith in
          rw at (ap (byte_of (k % 4)) (get_or-set_same mail (k / 4) _ 0 (omega arith)) ∙ byte_merged (k % 4) (omega arith) (get_or mail (k / 4) 0) v e)
      here false q =
          ap (byte_of (k % 4)) (get_or-set_other mail (o / 4) (k / 4) _ 0 (λ at. eqb-false o (k / 4 * 4) q (omega arith)))

  mail-byte : (x : Access)
      → byte_of (k % 4) (get_or (mail_after x mail) (k / 4) 0) ≡ cond (fills_byte k x) (byte_of (k % 4) x.value) (byte_of (k % 4) (get_or mail (k / 4) 0))
  unfolding mail_after
  mail-byte x = by (fills x) refl
    where
      by : (f : Bool) → fills x ≡ f
          → byte_of (k % 4) (get_or (cond f (set mail (x.offset / 4) (merged (get_or mail (x.offset / 4) 0) x.value x.enables)) mail) (k / 4) 0)
          ≡ cond (f && bit (marks_at x.offset x.enables) k) (byte_of (k % 4) x.value) (byte_of (k % 4) (get_or mail (k / 4) 0))
      by true e =
          let m = and_right (is_write_by (writer x.offset) x.kind) (is_mailbox x.offset) e in
          rw (bit_marks x.offset x.enables k m) (byte-set x.offset x.value x.enables (eqb-true (x.offset % 4) 0 (and_right (ltb x.offset 0x20) (eqb (x.offset % 4) 0) m)))
      by false e = refl

mail_length : (x : Access) (mail : List ℕ) → length mail ≡ 8 → length (mail_after x mail) ≡ 8
unfolding mail_after
mail_length x mail eight = by (fills x)
  where
    by : (f : Bool) → length (cond f (set mail (x.offset / 4) (merged (get_or mail (x.offset / 4) 0) x.value x.enables)) mail) ≡ 8
    by true = length-set mail (x.offset / 4) _ ∙ eight
    by false = eight

-- ---- any step

abbrev byte_in : ℕ → State → ℕ
byte_in k st = byte_of (k % 4) (get_or st.mail (k / 4) 0)

byte_reset : (k : ℕ) → k < 32 → byte_in k reset_state ≡ 0
byte_reset k h = ap (byte_of (k % 4)) (get_or-replicate 8 (k / 4) 0 0 (omega arith)) ∙ rw zero-div

byte_step : (k : ℕ) → k < 32 → (st : State) → length st.mail ≡ 8 → (x : Access) (code word : ℕ)
    → byte_in k (state_after st x code word)
    ≡ cond (eqb code 0) (cond (is_reset x.kind) 0 (cond (fills_byte k x) (byte_of (k % 4) x.value) (byte_in k st))) (byte_in k st)
unfolding moved_state settled done_state aborted_state
byte_step k h st eight x zero word =
    part-done (byte_in k) st x word false 0 (cond (fills_byte k x) (byte_of (k % 4) x.value) (byte_in k st)) (byte_reset k h) (mail-byte k h st.mail eight x) ∙ rw or-false
byte_step k h st eight x (suc c) word = rw (part-refused (byte_in k) st x c word refl, eqb-suc-zero c)

eight_step : (st : State) → length st.mail ≡ 8 → (x : Access) (code word : ℕ) → length (state_after st x code word).mail ≡ 8
unfolding state_after moved_state settled done_state aborted_state
eight_step st eight x zero word = by (is_reset x.kind)
  where
    by : (b : Bool) → length (cond b reset_state (done_state st x word)).mail ≡ 8
    by true = refl
    by false = mail_length x st.mail eight
eight_step st eight x (suc c) word = part-refused (λ (s : State). length s.mail) st x c word refl ∙ eight

eight_after : (st : State) (start : ℕ) (memory : List ℕ) (s : Step) → length st.mail ≡ 8 → length (step_of st start memory s).state.mail ≡ 8
unfolding step_of respond
eight_after st start memory s eight =
    let x = access_of s in
    let code = code_of st start (length memory) x in
    eight_step st eight x code (reply_of st start memory x code).value

-- ---- a run

module _ (k : ℕ) (h : k < 32) (start : ℕ) where
  byte-event : (st : State) (memory : List ℕ) (s : Step) → length st.mail ≡ 8
      → (let o = step_of st start memory s in byte_in k o.state ≡ byte_after k (byte_in k st) (record { step = s; answer = o.answer }))
  unfolding step_of respond answered
  byte-event st memory s eight =
      let x = access_of s in
      let code = code_of st start (length memory) x in
      let e : Event = record { step = s; answer = (step_of st start memory s).answer } in
      let old = byte_in k st in
      byte_step k h st eight x code (reply_of st start memory x code).value
      ∙ (λ i. cond (eqb code 0) (cond (reset-is e i) 0 (cond (fills-is k h e i) (byte_of (k % 4) s.value) old)) old)

  bytes-from : (steps : List Step) (st : State) (memory : List ℕ) → length st.mail ≡ 8
      → (let r = run st start memory steps in byte_in k r.state ≡ byte_from k (byte_in k st) r.events)
  bytes-from [] st memory eight = refl
  bytes-from (s ∷ ss) st memory eight =
      let o = step_of st start memory s in
      bytes-from ss o.state o.memory (eight_after st start memory s eight)
      ∙ ap (λ (b : ℕ). byte_from k b (run o.state start o.memory ss).events) (byte-event st memory s eight)

pub mail_bytes : MailBytes
mail_bytes k h start memory steps =
    bytes-from k h start steps reset_state memory refl ∙ ap (λ (b : ℕ). byte_from k b (run reset_state start memory steps).events) (byte_reset k h)
