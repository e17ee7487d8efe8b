-- The mailbox account.
use Prim.Native.Nat.{ℕ, zero, suc, ◌*◌, ◌/◌, ◌%◌, ◌<◌}
use mathlib.Core.Path.{◌≡◌, refl, sym, ap, ◌∙◌}
use mathlib.Core.Bool.{Bool, true, false, cond, ◌&&◌, ◌||◌, and-false}
use mathlib.Core.List.{List, [], ◌∷◌}
use native.Mathlib.Omega.{arith}
use lib.Dec.{eqb, ltb, eqb-suc-zero}
use lib.ListN.{length}
use borrow.Author.Tests.{lt-ltb, le-ltb, eq-eqb, eqb-true, ltb-true, ltb-false}
use Rattle.machine.specs.Words.{bit}
use Rattle.machine.specs.Sides.{pci, addon, host, card}
use Rattle.machine.specs.State.{State, reset_state}
use Rattle.machine.specs.Access.{Access, access_of, is_read_by, is_write_by, is_reset}
use Rattle.machine.specs.Offsets.{is_mailbox}
use Rattle.machine.specs.Commands.{clears_marks}
use Rattle.machine.specs.Mailboxes.{marks_at}
use Rattle.machine.specs.Code.{code_of}
use Rattle.machine.specs.Rights.{settled}
use Rattle.machine.specs.Step.{reply_of, state_after, step_of, respond, answered, moved_state, done_state, aborted_state}
use Rattle.machine.specs.Event.{Event}
use Rattle.machine.specs.Run.{run}
use Rattle.promises.specs.Account.{ByteEvent, write, read, clear, none, is_done, to_byte, owner_writes, other_reads, clears_bytes, touch, later, latest, was_write}
use Rattle.promises.specs.Theorems.{MailAccount}
use Rattle.machine.specs.declared.Step.{Step}
use Rattle.laws.proofs.KindNumbers.{named}
use Rattle.promises.proofs.Numbers.{reset-is, commands-is}
use Rattle.promises.proofs.After.{part-refused, part-done}
use Rattle.laws.proofs.Bits.{bit_zero}
use Rattle.laws.proofs.Marks.{fills_byte, takes_byte, bit_marks, mark_after}

-- ---- the machine's tests on a byte are the account's

is_mailbox_lem : (k : ℕ) → k < 32 → is_mailbox (k / 4 * 4) ≡ true
is_mailbox_lem k h = λ i. lt-ltb (k / 4 * 4) 0x20 (omega arith) i && eq-eqb (k / 4 * 4 % 4) 0 (omega arith) i

same_half : (k : ℕ) → ltb (k / 4 * 4) 0x10 ≡ ltb k 16
same_half k = by (ltb k 16) refl
  where
    by : (b : Bool) → ltb k 16 ≡ b → ltb (k / 4 * 4) 0x10 ≡ b
    by true e = let l = ltb-true k 16 e in lt-ltb (k / 4 * 4) 0x10 (omega arith)
    by false e = let l = ltb-false k 16 e in le-ltb (k / 4 * 4) 0x10 (omega arith)

-- a test `by` on the party of an offset's mailbox, and on the mark of its byte k, as a test on k alone
pub at_byte : (k : ℕ) → k < 32 → (by : Bool → Bool) (o e : ℕ)
    → (by (ltb o 0x10) && is_mailbox o && bit (marks_at o e) k) ≡ (by (ltb k 16) && (eqb o (k / 4 * 4) && bit e (k % 4)))
at_byte k h by o e = here (eqb o (k / 4 * 4)) refl
  where
    elsewhere : (m : Bool) → is_mailbox o ≡ m → eqb o (k / 4 * 4) ≡ false → (by (ltb o 0x10) && m && bit (marks_at o e) k) ≡ false
    elsewhere true p q = rw (bit_marks o e k p, q) (and-false (by (ltb o 0x10) && true))
    elsewhere false p q = rw (and-false (by (ltb o 0x10)))

    here : (b : Bool) → eqb o (k / 4 * 4) ≡ b → (by (ltb o 0x10) && is_mailbox o && bit (marks_at o e) k) ≡ (by (ltb k 16) && (b && bit e (k % 4)))
    here true q =
        let p : o ≡ k / 4 * 4 = eqb-true o (k / 4 * 4) q in
        rw p (rw (is_mailbox_lem k h, same_half k, bit_marks (k / 4 * 4) e k (is_mailbox_lem k h), eq-eqb (k / 4 * 4) (k / 4 * 4) refl) (middle (by (ltb k 16)) (bit e (k % 4))))
      where
        middle : (a b : Bool) → (a && true && b) ≡ (a && b)
        middle true b = refl
        middle false b = refl
    here false q = elsewhere (is_mailbox o) refl q ∙ sym (and-false (by (ltb k 16)))

clears_bytes_is : (e : Event) → (is_reset (access_of e.step).kind || clears_marks (access_of e.step)) ≡ clears_bytes e
clears_bytes_is e = λ i. reset-is e i || (commands-is e pci 27 i || commands-is e addon 27 i)

module _ (k : ℕ) (h : k < 32) (e : Event) where
  abbrev x : Access
  x = access_of e.step

  by-owner : (b : Bool) → is_write_by (cond b host card) x.kind ≡ eqb e.step.kind (cond b 1 3)
  by-owner true = (named e.step.kind).pci_write
  by-owner false = (named e.step.kind).addon_write

  by-other : (b : Bool) → is_read_by (cond b card host) x.kind ≡ eqb e.step.kind (cond b 2 0)
  by-other true = (named e.step.kind).addon_read
  by-other false = (named e.step.kind).pci_read

  pub fills-is : fills_byte k x ≡ owner_writes k e
  fills-is =
      at_byte k h (λ b. is_write_by (cond b host card) x.kind) x.offset x.enables ∙ (λ i. by-owner (ltb k 16) i && to_byte k e)

  takes-is : takes_byte k x ≡ other_reads k e
  takes-is =
      at_byte k h (λ b. is_read_by (cond b card host) x.kind) x.offset x.enables ∙ (λ i. by-other (ltb k 16) i && to_byte k e)

-- ---- one step

-- what a byte's mark is after a touch
abbrev pub touched : ByteEvent → Bool → Bool
touched write b = true
touched read b = false
touched clear b = false
touched none b = b

touched_later : (s t : ByteEvent) (b : Bool) → touched (later s t) b ≡ touched s (touched t b)
touched_later write t b = refl
touched_later read t b = refl
touched_later clear t b = refl
touched_later none t b = refl

touched_false : (t : ByteEvent) → touched t false ≡ was_write t
touched_false write = refl
touched_false read = refl
touched_false clear = refl
touched_false none = refl

touched_cond : (c f t b : Bool) → cond c false (cond f true (cond t false b)) ≡ touched (cond c clear (cond f write (cond t read none))) b
touched_cond true f t b = refl
touched_cond false true t b = refl
touched_cond false false true b = refl
touched_cond false false false b = refl

abbrev touch_of : ℕ → Access → ByteEvent
touch_of k x = cond (is_reset x.kind || clears_marks x) clear (cond (fills_byte k x) write (cond (takes_byte k x) read none))

touch_is : (k : ℕ) → k < 32 → (e : Event) → cond (is_done e) (touch_of k (access_of e.step)) none ≡ touch k e
touch_is k h e =
    λ i. cond (is_done e) (cond (clears_bytes_is e i) clear (cond (fills-is k h e i) write (cond (takes-is k h e i) read none))) none

mark_step : (k : ℕ) → k < 32 → (st : State) (x : Access) (code word : ℕ)
    → bit (state_after st x code word).marks k ≡ touched (cond (eqb code 0) (touch_of k x) none) (bit st.marks k)
unfolding moved_state settled done_state aborted_state
mark_step k h st x zero word =
    part-done (λ (s : State). bit s.marks k) st x word (clears_marks x) false _ (bit_zero k) (mark_after k h x st.marks)
    ∙ touched_cond (is_reset x.kind || clears_marks x) (fills_byte k x) (takes_byte k x) (bit st.marks k)
mark_step k h st x (suc c) word = rw (part-refused (λ (s : State). bit s.marks k) st x c word refl, eqb-suc-zero c)

pub mark_event : (k : ℕ) → k < 32 → (st : State) (start : ℕ) (memory : List ℕ) (s : Step)
    → (let o = step_of st start memory s in let e : Event = record { step = s; answer = o.answer } in bit o.state.marks k ≡ touched (touch k e) (bit st.marks k))
unfolding step_of respond answered
mark_event k h st start memory s =
    let x = access_of s in
    let code = code_of st start (length memory) x in
    mark_step k h st x code (reply_of st start memory x code).value
    ∙ (λ i. touched (touch_is k h (record { step = s; answer = (step_of st start memory s).answer }) i) (bit st.marks k))

-- ---- a run

account_from : (k : ℕ) → k < 32 → (start : ℕ) (steps : List Step) (st : State) (memory : List ℕ)
    → (let r = run st start memory steps in bit r.state.marks k ≡ touched (latest k r.events) (bit st.marks k))
account_from k h start [] st memory = refl
account_from k h start (s ∷ ss) st memory =
    let o = step_of st start memory s in
    let e : Event = record { step = s; answer = o.answer } in
    let rest = latest k (run o.state start o.memory ss).events in
    account_from k h start ss o.state o.memory ∙ ap (touched rest) (mark_event k h st start memory s) ∙ sym (touched_later rest (touch k e) (bit st.marks k))

pub mail_account : MailAccount
mail_account k h start memory steps =
    let r = run reset_state start memory steps in
    account_from k h start steps reset_state memory ∙ ap (touched (latest k r.events)) (bit_zero k) ∙ touched_false (latest k r.events)
