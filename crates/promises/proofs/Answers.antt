-- What a done step answers, and the rules that its answer goes by: offsets, registers, readiness, places and the line.
use Prim.Native.Nat.{ℕ, zero, suc, ◌-◌, ◌*◌, ◌/◌, ◌%◌, ◌^◌, ◌≤◌, ◌<◌, min}
use mathlib.Core.Path.{◌≡◌, refl, sym, ◌∙◌}
use mathlib.Core.Bool.{Bool, true, false, cond, not, ◌&&◌, ◌||◌, or-false, and_comm, false≢true}
use mathlib.Core.List.{List, [], ◌∷◌}
use native.Mathlib.Omega.{arith}
use lib.Dec.{eqb, leb, ltb}
use lib.ListN.{length, get_or}
use borrow.Author.Tests.{ne_eqb, lt-ltb, le-ltb, ltb-true, ltb-false, lt-leb, le-leb, leb-true, leb-false}
use Rattle.machine.specs.Words.{bit, shown}
use Rattle.machine.specs.Sides.{pci, addon}
use Rattle.machine.specs.State.{State}
use Rattle.machine.specs.Access.{kind_of, access_of}
use Rattle.machine.specs.Offsets.{in_table, is_read_only}
use Rattle.machine.specs.Mailboxes.{changes}
use Rattle.machine.specs.Window.{place_of}
use Rattle.machine.specs.Cycles.{low_enables, is_ready, cycle_word}
use Rattle.machine.specs.Interrupts.{line_of}
use Rattle.machine.specs.Code.{code_of, tests}
use Rattle.machine.specs.Step.{register, read_value, Reply, nothing, done_reply, aborted_reply, reply_of, answered, respond, step_of}
use Rattle.promises.specs.Readings.{is_one_of, is_access_kind, pci_offsets, addon_offsets, pci_read_only, addon_read_only, OffsetTable, OffsetTables, RegisterTables, ReadyRule, PlaceRule, is_line_high, LineRule, addresses, values, lowest_enables, AnswerRule}
use Rattle.machine.specs.declared.Step.{Step}
use Rattle.laws.proofs.Tests.{and_left, and_right, none_applies}
use Rattle.laws.proofs.KindNumbers.{named, aborted_reply_lem}
use Rattle.laws.proofs.Bits.{bit_low, bit_beyond, by_bits}
use Rattle.promises.proofs.Bytes.{listed, agree, bit-shown, shown_lt}
use Rattle.promises.proofs.Readings.{low_enables_lem}
use Rattle.laws.proofs.Refused.{line_cond}

-- ---- registers

-- an offset of 64 or more is none of a list of smaller ones
abbrev pub all_below : ℕ → List ℕ → Bool
all_below n [] = true
all_below n (x ∷ xs) = ltb x n && all_below n xs

none_of : (n : ℕ) (xs : List ℕ) (offset : ℕ) → all_below n xs ≡ true → n ≤ offset → is_one_of xs offset ≡ false
none_of n [] offset e h = refl
none_of n (x ∷ xs) offset e h =
    let l = ltb-true x n (and_left (ltb x n) (all_below n xs) e) in
    rw (ne_eqb offset x (λ q. omega arith)) (none_of n xs offset (and_right (ltb x n) (all_below n xs) e) h)

-- one of numbers below a bound is below it
pub in_list : (n : ℕ) (xs : List ℕ) (x : ℕ) → all_below n xs ≡ true → is_one_of xs x ≡ true → x < n
in_list n xs x e h = by (ltb x n) refl
  where
    by : (b : Bool) → ltb x n ≡ b → x < n
    by true q = ltb-true x n q
    by false q = absurd (false≢true (sym (none_of n xs x e (ltb-false x n q)) ∙ h))

-- a test of offsets against a list: below 64 by computation, from there on neither holds
module _ (offset : ℕ) where
  by-list : (f : ℕ → Bool) (xs : List ℕ) → listed 64 f ≡ listed 64 (is_one_of xs) → all_below 64 xs ≡ true → (64 ≤ offset → f offset ≡ false) → f offset ≡ is_one_of xs offset
  by-list f xs same small beyond = at (ltb offset 64) refl
    where
      at : (b : Bool) → ltb offset 64 ≡ b → f offset ≡ is_one_of xs offset
      at true e = agree 64 f (is_one_of xs) same offset (ltb-true offset 64 e)
      at false e = let l = ltb-false offset 64 e in beyond l ∙ sym (none_of 64 xs offset small l)

  pub table_at : OffsetTable offset
  unfolding all_below
  table_at =
      record {
        in_pci = by-list (in_table pci) pci_offsets refl refl (λ h. rw (le-ltb offset 0x40 h));
        in_addon = by-list (in_table addon) addon_offsets refl refl (λ h. simp (le-ltb offset 0x20 (omega arith), ne_eqb offset 0x20 (λ q. omega arith), ne_eqb offset 0x34 (λ q. omega arith), ne_eqb offset 0x38 (λ q. omega arith), ne_eqb offset 0x3C (λ q. omega arith)));
        read_only_to_pci = by-list (is_read_only pci) pci_read_only refl refl (λ h. simp (le-ltb offset 0x20 (omega arith), ne_eqb offset 0x34 (λ q. omega arith)));
        read_only_to_addon = by-list (is_read_only addon) addon_read_only refl refl (λ h. simp (le-ltb offset 0x20 (omega arith), ne_eqb offset 0x34 (λ q. omega arith)));
      }

pub offset_table : OffsetTables
offset_table = table_at

pub register_table : RegisterTables
unfolding register
register_table st =
    record {
      mail =
          λ side i h.
          let z : 4 * i % 4 ≡ 0 = omega arith in
          let q : 4 * i / 4 ≡ i = omega arith in
          rw (lt-ltb (4 * i) 0x20 (omega arith), z, q);
      write_address = refl;
      write_count = refl;
      read_address = refl;
      read_count = refl;
      status = λ side. refl;
      intcsr = refl;
      mcsr = refl;
      aint = refl;
      agcsts = refl;
    }

-- ---- cycles

-- one is enough: four are not asked for, or there is the right
enough : (four right : Bool) → not (four && not right) ≡ (not four || right)
enough true true = refl
enough true false = refl
enough false right = refl

module _ (n : ℕ) where
  held-ready : (four : Bool) → leb (cond four 4 1) n ≡ (leb 4 n || not four && leb 1 n)
  held-ready true = sym (or-false (leb 4 n))
  held-ready false = by (leb 4 n) refl
    where
      by : (b : Bool) → leb 4 n ≡ b → leb 1 n ≡ (b || leb 1 n)
      by true e = let l = leb-true 4 n e in le-leb 1 n (omega arith)
      by false e = refl

  room-is : (k : ℕ) → 0 < k → k ≤ 8 → leb k (8 - n) ≡ leb n (8 - k)
  room-is k p h = by (leb n (8 - k)) refl
    where
      by : (b : Bool) → leb n (8 - k) ≡ b → leb k (8 - n) ≡ b
      by true e = let l = leb-true n (8 - k) e in le-leb k (8 - n) (omega arith)
      by false e = let l = leb-false n (8 - k) e in lt-leb k (8 - n) (omega arith)

pub ready_rule : ReadyRule
unfolding is_ready
ready_rule st =
    let n = length st.from_pci.words in
    let m = length st.from_addon.words in
    let write = enough (bit st.mcsr 9) st.from_addon.right in
    let read = enough (bit st.mcsr 13) st.from_pci.right in
    record {
      write = held-ready m (bit st.mcsr 9 && not st.from_addon.right) ∙ (λ i. leb 4 m || write i && leb 1 m);
      read = held-ready (8 - n) (bit st.mcsr 13 && not st.from_pci.right) ∙ (λ i. room-is n 4 (omega arith) (omega arith) i || read i && room-is n 1 (omega arith) (omega arith) i);
    }

pub place_rule : PlaceRule
unfolding place_of
place_rule start address h k = (λ l. omega arith, λ l. omega arith)

-- ---- the line

regroup : (a b c d e : Bool) → (a || b || c || d || e) ≡ ((a || (b || (c || (d || false)))) || e)
regroup true b c d e = refl
regroup false true c d e = refl
regroup false false true d e = refl
regroup false false false true e = refl
regroup false false false false e = refl

line_high : (i : ℕ) → line_of i ≡ is_line_high i
unfolding line_of
line_high i = regroup (bit i 16 && bit i 4) (bit i 17 && bit i 12) (bit i 18 && bit i 14) (bit i 19 && bit i 15) (bit i 20 || bit i 21)

pub line_rule : LineRule
unfolding step_of respond answered
line_rule st start memory s =
    let o = step_of st start memory s in
    record {
      line = line_cond (eqb o.answer.code 1) (line_of o.state.intcsr) ∙ (λ i. cond (eqb o.answer.code 1) false (line_high o.state.intcsr i));
      addon_line = line_cond (eqb o.answer.code 1) (line_of o.state.aint) ∙ (λ i. cond (eqb o.answer.code 1) false (line_high o.state.aint i));
    }

-- ---- data

-- the lowest n bytes
by_bytes : (k n : ℕ) → ltb (k / 8) n ≡ ltb k (8 * n)
by_bytes k n = by (ltb k (8 * n)) refl
  where
    by : (b : Bool) → ltb k (8 * n) ≡ b → ltb (k / 8) n ≡ b
    by true e = let l = ltb-true k (8 * n) e in lt-ltb (k / 8) n (omega arith)
    by false e = let l = ltb-false k (8 * n) e in le-ltb (k / 8) n (omega arith)

shown_low : (x count : ℕ) → shown x (low_enables count) ≡ x % 2 ^ (8 * min 4 count)
shown_low x count = by_bits _ _ (λ k. at k (ltb k 32) refl)
  where
    at : (k : ℕ) (b : Bool) → ltb k 32 ≡ b → bit (shown x (low_enables count)) k ≡ bit (x % 2 ^ (8 * min 4 count)) k
    at k true e =
        let l = ltb-true k 32 e in
        bit-shown k l x (low_enables count) ∙ rw (low_enables_lem count (k / 8), bit_low, by_bytes k (min 4 count)) (and_comm (bit x k) (ltb k (8 * min 4 count)))
    at k false e =
        let l = ltb-false k 32 e in
        bit_beyond 32 k _ (shown_lt x (low_enables count)) l ∙ sym (bit_low (8 * min 4 count) x k ∙ rw (le-ltb k (8 * min 4 count) (omega arith)))

-- ---- the answer

module _ (st : State) (start : ℕ) (memory : List ℕ) (s : Step) where
  -- what a done step of each kind answers
  by_number : (k : ℕ) → Reply
  by_number k = record { address = get_or (addresses st) k 0; value = get_or (values st start memory s) k 0; enables = get_or (lowest_enables st) k 0; changed = cond (is_access_kind k) (changes (access_of s) st.marks) 0 }

  reply-is : (k : ℕ) → done_reply (kind_of k) st start memory (access_of s) ≡ by_number k
  unfolding by_number done_reply read_value cycle_word low_enables
  reply-is zero = refl
  reply-is (suc zero) = refl
  reply-is (suc (suc zero)) = refl
  reply-is (suc (suc (suc zero))) = refl
  reply-is (suc (suc (suc (suc zero)))) = refl
  reply-is (suc (suc (suc (suc (suc zero))))) =
      λ i.
      record {
        address = st.from_pci.address;
        value = shown_low (get_or memory (place_of start st.from_pci.address) 0) st.from_pci.count i;
        enables = 2 ^ min 4 st.from_pci.count - 1;
        changed = 0;
      }
  reply-is (suc (suc (suc (suc (suc (suc zero)))))) = refl
  reply-is (suc (suc (suc (suc (suc (suc (suc n))))))) =
      let k = suc (suc (suc (suc (suc (suc (suc n)))))) in
      rw (ne_eqb k 0 (λ q. omega arith), ne_eqb k 1 (λ q. omega arith), ne_eqb k 2 (λ q. omega arith), ne_eqb k 3 (λ q. omega arith))

-- the marks that a step changed, by its code and kind
pub changed_is : (st : State) (start : ℕ) (memory : List ℕ) (s : Step)
    → (step_of st start memory s).answer.changed ≡ cond (eqb (code_of st start (length memory) (access_of s)) 0 && is_access_kind s.kind) (changes (access_of s) st.marks) 0
unfolding step_of respond answered reply_of by_number
changed_is st start memory s = by (eqb code 0) (eqb code 13)
  where
    code : ℕ
    code = code_of st start (length memory) (access_of s)

    by : (done absent : Bool)
        → (cond done (done_reply (access_of s).kind st start memory (access_of s)) (cond absent (aborted_reply (access_of s).kind st) nothing)).changed
        ≡ cond (done && is_access_kind s.kind) (changes (access_of s) st.marks) 0
    by true absent = λ i. (reply-is st start memory s s.kind i).changed
    by false true = λ i. (aborted_reply_lem st s.kind i).changed
    by false false = refl

pub answer_rule : AnswerRule
unfolding step_of respond answered reply_of code_of by_number
answer_rule st start memory s e =
    let reply = reply-is st start memory s s.kind in
    let known = none_applies (tests st start (length memory) (access_of s)) refl e 3 in
    record {
      kind = ltb-false 6 s.kind (sym (named s.kind).unknown ∙ known);
      address = rw e (λ i. (reply i).address);
      value = rw e (λ i. (reply i).value);
      enables = rw e (λ i. (reply i).enables);
      line = (line_rule st start memory s).line ∙ rw e;
      addon_line = (line_rule st start memory s).addon_line ∙ rw e;
    }
