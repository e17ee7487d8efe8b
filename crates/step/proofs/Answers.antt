-- What a kind promises of words: a read or a write that is refused, and one that is done.
use Prim.Native.Nat.{ℕ, ◌+◌, ◌%◌, ◌<◌}
use mathlib.Core.Path.{◌≡◌, refl, sym, ap, ◌∙◌}
use mathlib.Core.Bool.{Bool, true, false, cond, true≢false}
use mathlib.Core.List.{List}
use native.Mathlib.Omega.{arith}
use lib.Dec.{eqb, ltb}
use lib.ListN.{length, get_or, set, drop}
use lib.Seq.{get_or-take, get_or-drop}
use borrow.Author.Tests.{ltb-true}
use Rattle.laws.proofs.Tests.{and_left, and_right}
use Rattle.machine.specs.Refusals.{refusal_number}
use Rattle.machine.specs.declared.codes.Refusal.{Refusal}
use Rattle.machine.specs.declared.codes.Refusal.TheVariants.{StateOutOfForm, WindowOutOfForm, UnknownStep, UnknownOffset, BadEnables, PartFifoAccess, ReadOnlyRegister, FifoFullOrEmpty, TransferOff, CountIsZero, AbortStands, FifoNotReady, NoMemoryThere, NotAFrameLine, UnknownLabelSet, NotAHexRecord, WrongSum, OutsideTheWindow, NoEndOrNotLast, OutputTooShort}
use Rattle.machine.specs.Words.{merged}
use Rattle.machine.specs.Sides.{Side, pci, addon, other}
use Rattle.machine.specs.State.{State, held}
use Rattle.machine.specs.BySide.{read_kind, write_kind}
use Rattle.machine.specs.Access.{Access, Kind, reading, writing, cycle, chip_reset, unknown, kind_of, access_of, is_access, is_reset, cycles, is_write_by}
use Rattle.machine.specs.Offsets.{is_mailbox, mailbox, writer}
use Rattle.machine.specs.Mailboxes.{fills, changes, mail_after}
use Rattle.machine.specs.Fifos.{front}
use Rattle.machine.specs.Step.{Reply, nothing, showing, register, done_reply, moved_state, answered, respond}
use Rattle.machine.specs.declared.Step.{Step}
use Rattle.machine.specs.declared.Answer.{Answer}
use Rattle.bank.specs.declared.Bank.{Bank}
use Rattle.bank.specs.Bank.{state_in}
use Rattle.bank.specs.Words.{part, mail_in, pci_in, addon_in, bank_in, state_of_words, has_rights}
use Rattle.bank.proofs.Words.{Stand, stand, stand-state, stand-rights, stand-mail}
use Rattle.refusal.specs.Codes.{access_code, cycle_code, cycle_by}
use Rattle.step.specs.Parts.{settled_outcome, outcome_in, lane_changed, without_front, with_last, mail_stored, event_told, Stored, Kept, Done, Accessed, Cycled}
use Rattle.step.proofs.Laws.{refused, done_step, port-read, port-reply, port-read-state, read-reply, read-state, port-write, port-write-state, mail-state, write-reply, plain-write-reply}

pub kept_same : (l : List ℕ) (a : Answer) → Kept l a l
kept_same l a = record { rights = λ h. h; refused = λ e f. refl }

-- a bank of the words' numbers, beside the words
pub at_words : (l : List ℕ) (b : Bank) → b ≡ bank_in l → state_in b (mail_in l) (pci_in l) (addon_in l) ≡ state_of_words l
at_words l b e = λ i. state_in (e i) (mail_in l) (pci_in l) (addon_in l)

-- a word of a part is one of the words
pub part_word : (a m k : ℕ) (l : List ℕ) → k < m → get_or (part a m l) k 0 ≡ get_or l (a + k) 0
part_word a m k l h = get_or-take m (drop a l) k 0 h ∙ get_or-drop a l k 0

module _ (l : List ℕ) (s : Step) (b : Bank) (code : ℕ) (e : b ≡ bank_in l) (is : (code ≡ 13 → ⊥) × ((mail places behind : List ℕ) → code ≡ access_code (state_in b mail places behind) (access_of s))) where
  pub coded : code ≡ access_code (state_of_words l) (access_of s)
  coded = is.1 (mail_in l) (pci_in l) (addon_in l) ∙ (λ i. access_code (at_words l b e i) (access_of s))

  pub access-done : (a : Answer) (l' : List ℕ) → code ≡ 0 → Done s l a l' → Accessed s l a l'
  access-done a l' zero d = (λ start memory. d.0 start memory ∙ (λ i. respond (state_of_words l) start memory (access_of s) ((sym zero ∙ coded) i)), d.1)

-- what refuses is not done
pub never_done : (r : Refusal) → refusal_number r ≡ 0 → ⊥
never_done StateOutOfForm e = omega (arith, e)
never_done WindowOutOfForm e = omega (arith, e)
never_done UnknownStep e = omega (arith, e)
never_done UnknownOffset e = omega (arith, e)
never_done BadEnables e = omega (arith, e)
never_done PartFifoAccess e = omega (arith, e)
never_done ReadOnlyRegister e = omega (arith, e)
never_done FifoFullOrEmpty e = omega (arith, e)
never_done TransferOff e = omega (arith, e)
never_done CountIsZero e = omega (arith, e)
never_done AbortStands e = omega (arith, e)
never_done FifoNotReady e = omega (arith, e)
never_done NoMemoryThere e = omega (arith, e)
never_done NotAFrameLine e = omega (arith, e)
never_done UnknownLabelSet e = omega (arith, e)
never_done NotAHexRecord e = omega (arith, e)
never_done WrongSum e = omega (arith, e)
never_done OutsideTheWindow e = omega (arith, e)
never_done NoEndOrNotLast e = omega (arith, e)
never_done OutputTooShort e = omega (arith, e)

-- code 13 is of one refusal alone
pub only_13 : (r : Refusal) → refusal_number r ≡ 13 → r ≡ NoMemoryThere
only_13 StateOutOfForm e = absurd (omega (arith, e))
only_13 WindowOutOfForm e = absurd (omega (arith, e))
only_13 UnknownStep e = absurd (omega (arith, e))
only_13 UnknownOffset e = absurd (omega (arith, e))
only_13 BadEnables e = absurd (omega (arith, e))
only_13 PartFifoAccess e = absurd (omega (arith, e))
only_13 ReadOnlyRegister e = absurd (omega (arith, e))
only_13 FifoFullOrEmpty e = absurd (omega (arith, e))
only_13 TransferOff e = absurd (omega (arith, e))
only_13 CountIsZero e = absurd (omega (arith, e))
only_13 AbortStands e = absurd (omega (arith, e))
only_13 FifoNotReady e = absurd (omega (arith, e))
only_13 NoMemoryThere e = refl
only_13 NotAFrameLine e = absurd (omega (arith, e))
only_13 UnknownLabelSet e = absurd (omega (arith, e))
only_13 NotAHexRecord e = absurd (omega (arith, e))
only_13 WrongSum e = absurd (omega (arith, e))
only_13 OutsideTheWindow e = absurd (omega (arith, e))
only_13 NoEndOrNotLast e = absurd (omega (arith, e))
only_13 OutputTooShort e = absurd (omega (arith, e))

pub access-refused : (l : List ℕ) (s : Step) (b : Bank) → b ≡ bank_in l → (r : Refusal) → (refusal_number r ≡ 13 → ⊥) → ((mail places behind : List ℕ) → refusal_number r ≡ access_code (state_in b mail places behind) (access_of s))
    → (code : ℕ) → code ≡ refusal_number r → (a : Answer) → ((mail places behind : List ℕ) → a ≡ answered (state_in b mail places behind) code nothing) → Accessed s l a l
access-refused l s b e r goes_on is code named a q =
    let told : a ≡ answered (state_of_words l) (refusal_number r) nothing = q (mail_in l) (pci_in l) (addon_in l) ∙ (λ i. answered (at_words l b e i) (named i) nothing) in (
      λ start memory. (λ i. settled_outcome (outcome_in l memory (told i))) ∙ refused (state_of_words l) start memory (access_of s) (refusal_number r) (never_done r) goes_on ∙ (λ i. respond (state_of_words l) start memory (access_of s) (coded l s b (refusal_number r) e (goes_on, is) i)),
      kept_same l a,
    )

-- an answer by code 0 is no refusal
pub done_code : (st : State) (reply : Reply) (a : Answer) → a ≡ answered st 0 reply → eqb a.code 0 ≡ false → ⊥
unfolding answered
done_code st reply a e f = true≢false (sym (λ i. eqb (e i).code 0) ∙ f)

pub done_kept : (l l' : List ℕ) (st : State) (reply : Reply) (a : Answer) → a ≡ answered st 0 reply → (has_rights l ≡ true → has_rights l' ≡ true) → Kept l a l'
done_kept l l' st reply a e h = record { rights = h; refused = λ z f. absurd (done_code st reply a e z) }

-- done, with what stands in the words then
module _ (l : List ℕ) (s : Step) (reply : Reply) (a : Answer) where
  pub done-as : (l' : List ℕ) (after : State) → state_of_words l' ≡ after → is_reset (access_of s).kind ≡ false → cycles addon (access_of s).kind ≡ false
      → ((start : ℕ) (memory : List ℕ) → reply ≡ done_reply (access_of s).kind (state_of_words l) start memory (access_of s))
      → after ≡ moved_state (state_of_words l) (access_of s) reply.value
      → a ≡ answered after 0 reply → (has_rights l ≡ true → has_rights l' ≡ true) → Done s l a l'
  done-as l' after e reset store r m w h = (
    λ start memory. (λ i. settled_outcome (record { state = e i; memory = memory; answer = a })) ∙ done_step (state_of_words l) start memory (access_of s) 0 after reply a refl reset store (r start memory) m w,
    done_kept l l' after reply a w h,
  )

-- a read or a write is no reset and stores nothing in memory
plain : (k : Kind) → is_access k ≡ true → (is_reset k ≡ false) × (cycles addon k ≡ false)
plain (reading by) h = (refl, refl)
plain (writing by) h = (refl, refl)
plain (cycle side) h = absurd (true≢false (sym h))
plain chip_reset h = absurd (true≢false (sym h))
plain unknown h = absurd (true≢false (sym h))

pub read_access : (side : Side) (n : ℕ) → n ≡ read_kind side → is_access (kind_of n) ≡ true
read_access pci n k = rw k
read_access addon n k = rw k

pub write_access : (side : Side) (n : ℕ) → n ≡ write_kind side → is_access (kind_of n) ≡ true
write_access pci n k = rw k
write_access addon n k = rw k

-- two changes, one after the other
pub both : (r q : State → State) (l m l' : List ℕ) → Stored r l m → Stored q m l' → Stored (λ st. q (r st)) l l'
both r q l m l' a b = record { state = b.state ∙ ap q a.state; rights = λ h. b.rights (a.rights h) }

-- done, by a rule of what it changes
pub done-stored : (l l' : List ℕ) (s : Step) (a : Answer) (rule : State → State) (value changed : ℕ) → is_access (access_of s).kind ≡ true → Stored rule l l'
    → ((start : ℕ) (memory : List ℕ) → showing value changed ≡ done_reply (access_of s).kind (state_of_words l) start memory (access_of s))
    → rule (state_of_words l) ≡ moved_state (state_of_words l) (access_of s) value
    → a ≡ answered (state_of_words l') 0 (showing value changed) → Done s l a l'
done-stored l l' s a rule value changed h by r m w =
    done-as l s (showing value changed) a l' (rule (state_of_words l)) by.state (plain (access_of s).kind h).0 (plain (access_of s).kind h).1 r m
    (w ∙ (λ i. answered (by.state i) 0 (showing value changed))) by.rights

-- ---- mailboxes among the words

below : (o : ℕ) → is_mailbox o ≡ true → mailbox o < 8
below o box = omega (arith, ltb-true o 0x20 (and_left (ltb o 0x20) (eqb (o % 4) 0) box))

pub mail_word_in : (l : List ℕ) (o : ℕ) → is_mailbox o ≡ true → get_or l (mailbox o) 0 ≡ get_or (mail_in l) (mailbox o) 0
mail_word_in l o box = sym (get_or-take 8 l (mailbox o) 0 (below o box))

pub stand_mailed : {l mail places behind : List ℕ} {n : ℕ → ℕ} (x : Access) → Stand l mail places behind n → Stand (mail_after x l) (mail_after x mail) places behind n
unfolding mail_after
stand_mailed {l} {mail} {places} {behind} {n} x s = by (fills x) refl
  where
    new : List ℕ → ℕ
    new t = merged (get_or t (mailbox x.offset) 0) x.value x.enables

    by : (d : Bool) → fills x ≡ d → Stand (cond d (set l (mailbox x.offset) (new l)) l) (cond d (set mail (mailbox x.offset) (new mail)) mail) places behind n
    by true e =
        let box = and_right (is_write_by (writer x.offset) x.kind) (is_mailbox x.offset) e in
        let same = mail_word_in l x.offset box ∙ (λ i. get_or (s.mails i) (mailbox x.offset) 0) in
        rw (← same) (stand-mail s (mailbox x.offset) (new l) (below x.offset box))
    by false e = s

mailed : (l : List ℕ) → length l ≡ 38 → (x : Access) (m : List ℕ) → m ≡ mail_after x l → Stored (mail_stored x) l m
unfolding state_in
mailed l long x m put =
    let e = stand_mailed x (stand l long) in
    record { state = ap state_of_words put ∙ stand-state e; rights = λ h. ap has_rights put ∙ stand-rights e ∙ h }

-- what reads and writes do, by the side of who asks and the other one
module _ (l l' : List ℕ) (s : Step) (a : Answer) (side o : Side) (e : o ≡ other side) where
  pub pop-done : s.kind ≡ read_kind side → s.offset ≡ 0x20 → access_code (state_of_words l) (access_of s) ≡ 0 → (x : ℕ)
      → Stored (lane_changed o without_front) l l' → (0 < length (held o (state_of_words l)) → x ≡ front (held o (state_of_words l)))
      → a ≡ answered (state_of_words l') 0 (showing x 0) → Done s l a l'
  pop-done k port zero x by word w =
      let st = state_of_words l in
      let some : 0 < length (held o st) = rw e (port-read st s zero port side k) in
      done-stored l l' s a (lane_changed o without_front) x 0 (read_access side s.kind k) by
      (λ start memory. rw (word some, e) (port-reply st s port 0 side start memory k))
      (rw e (port-read-state st s port x side k)) w

  pub look-done : s.kind ≡ read_kind side → (s.offset ≡ 0x20 → ⊥) → (x changed : ℕ) → x ≡ register side (state_of_words l) s.offset
      → changed ≡ changes (access_of s) (state_of_words l).marks → Stored (event_told o changed) l l'
      → a ≡ answered (state_of_words l') 0 (showing x changed) → Done s l a l'
  look-done k away x changed shown is by w =
      let st = state_of_words l in
      done-stored l l' s a (event_told o changed) x changed (read_access side s.kind k) by
      (λ start memory. rw (shown, is) (read-reply st s away 0 side start memory k))
      (rw (e, is) (read-state st s away x side k)) w

  pub mail-done : s.kind ≡ write_kind side → is_mailbox s.offset ≡ true → length l ≡ 38 → (m : List ℕ) → m ≡ mail_after (access_of s) l → (changed : ℕ)
      → changed ≡ changes (access_of s) (state_of_words l).marks → Stored (event_told o changed) m l'
      → a ≡ answered (state_of_words l') 0 (showing 0 changed) → Done s l a l'
  mail-done k box long m put changed is by w =
      let st = state_of_words l in
      done-stored l l' s a (λ t. event_told o changed (mail_stored (access_of s) t)) 0 changed (write_access side s.kind k)
      (both (mail_stored (access_of s)) (event_told o changed) l m l' (mailed l long (access_of s) m put) by)
      (λ start memory. rw is (write-reply st start memory s side k))
      (rw (e, is) (mail-state st s box side k)) w

module _ (l l' : List ℕ) (s : Step) (a : Answer) (side : Side) (k : s.kind ≡ write_kind side) where
  pub push-done : s.offset ≡ 0x20 → access_code (state_of_words l) (access_of s) ≡ 0 → (length (held side (state_of_words l)) < 8 → Stored (lane_changed side (with_last s.value)) l l')
      → a ≡ answered (state_of_words l') 0 (showing 0 0) → Done s l a l'
  push-done port zero by w =
      let st = state_of_words l in
      done-stored l l' s a (lane_changed side (with_last s.value)) 0 0 (write_access side s.kind k) (by (port-write st s zero port side k))
      (λ start memory. plain-write-reply st start memory s side k (rw port))
      (port-write-state st s port 0 side k) w

  -- any other register, by a rule of what is stored
  pub store-done : is_mailbox s.offset ≡ false → (rule : State → State) → Stored rule l l' → rule (state_of_words l) ≡ moved_state (state_of_words l) (access_of s) 0
      → a ≡ answered (state_of_words l') 0 (showing 0 0) → Done s l a l'
  store-done box rule by m w =
      done-stored l l' s a rule 0 0 (write_access side s.kind k) by (λ start memory. plain-write-reply (state_of_words l) start memory s side k box) m w

-- ---- cycles

module _ (side : Side) (l : List ℕ) (start words : ℕ) (b : Bank) (code : ℕ) (e : b ≡ bank_in l) (is : (mail places behind : List ℕ) → code ≡ cycle_code side (state_in b mail places behind) start words) where
  pub cycle-coded : code ≡ cycle_code side (state_of_words l) start words
  cycle-coded = is (mail_in l) (pci_in l) (addon_in l) ∙ (λ i. cycle_code side (at_words l b e i) start words)

pub cycle_refused : (side : Side) (l : List ℕ) (start : ℕ) (memory : List ℕ) (b : Bank) (code : ℕ) → b ≡ bank_in l
    → ((mail places behind : List ℕ) → code ≡ cycle_code side (state_in b mail places behind) start (length memory))
    → (a : Answer) → (code ≡ 0 → ⊥) → (code ≡ 13 → ⊥) → ((mail places behind : List ℕ) → a ≡ answered (state_in b mail places behind) code nothing) → Cycled side l start memory a l memory
cycle_refused side l start memory b code e is a other abort r =
    let told : a ≡ answered (state_of_words l) code nothing = r (mail_in l) (pci_in l) (addon_in l) ∙ (λ i. answered (at_words l b e i) code nothing) in (
      λ offset enables value.
          (λ i. settled_outcome (outcome_in l memory (told i)))
          ∙ refused (state_of_words l) start memory (cycle_by side offset enables value) code other abort
          ∙ (λ i. respond (state_of_words l) start memory (cycle_by side offset enables value) (cycle-coded side l start (length memory) b code e is i)),
      kept_same l a,
    )

-- code 13 is no refusal that leaves every word
pub abort_kept : (l l' : List ℕ) (st : State) (reply : Reply) (a : Answer) → a ≡ answered st 13 reply → (has_rights l ≡ true → has_rights l' ≡ true) → Kept l a l'
unfolding answered
abort_kept l l' st reply a e h = record { rights = h; refused = λ z f. absurd (true≢false (sym (λ i. eqb (e i).code 13) ∙ f)) }
