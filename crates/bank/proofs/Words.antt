-- Words, some of which are stored anew: the state that they then stand for.
use Prim.Native.Nat.{ℕ, ◌+◌, ◌-◌, ◌≤◌, ◌<◌}
use mathlib.Core.Path.{◌≡◌, refl, sym, ap, ◌∙◌}
use mathlib.Core.Bool.{Bool, true, false, cond, ◌&&◌}
use mathlib.Core.List.{List, [], ◌∷◌, ◌++◌}
use native.Mathlib.Decide.{ℕ_discrete}
use native.Mathlib.Omega.{arith}
use Rattle.std.proofs.lemmas.List.{take-take, drop-take, drop_all, take-append-le, drop-append-le, get_or-drop, length-append}
use Rattle.std.proofs.lemmas.Slice.{drop-append-drop}
use mir.Val.{bool_byte}
use lib.Dec.{eqb, leb, ltb}
use lib.ListN.{length, get_or, set, take, drop, length-set, length-drop}
use lib.Seq.{get_or-append_right, get_or-set_same, get_or-set_other, take-set-le, take-set-lt, drop-set-lt, drop-set-add, take_all, length-take-le}
use borrow.Author.Tests.{eq-eqb, ne_eqb, leb-true, ltb-true}
use Rattle.laws.proofs.Tests.{and_left, and_right}
use Rattle.fifo.specs.Ring.{from}
use Rattle.bank.specs.Bank.{state_in}
use Rattle.bank.specs.Words.{part, mail_in, pci_in, addon_in, with_run, number_in, is_right, bank_by, state_of_words, rights_by, has_rights, is_controller, ZerosAreReset}

pub zeros_are_reset : ZerosAreReset
unfolding is_controller state_in from
zeros_are_reset = (refl, refl)

-- ---- a word stored anew

-- numbers of which one is another
abbrev pub but : ℕ → ℕ → (ℕ → ℕ) → ℕ → ℕ
but k x n = λ j. cond (eqb j k) x (n j)

number_set : (l : List ℕ) (k x j : ℕ) → k < length l → number_in (set l k x) j ≡ but k x (number_in l) j
number_set l k x j h = at (ℕ_discrete j k)
  where
    at : Dec (j ≡ k) → get_or (set l k x) j 0 ≡ cond (eqb j k) x (get_or l j 0)
    at (yes e) = rw (eq-eqb j k e, e) (get_or-set_same l k x 0 h)
    at (no e) = rw (ne_eqb j k e) (get_or-set_other l k j x 0 e)

-- a part that it is not in, before or behind it, and the part that it is in
part_before : (a m : ℕ) (l : List ℕ) (k x : ℕ) → a + m ≤ k → part a m (set l k x) ≡ part a m l
part_before a m l k x h =
    let here : set l (a + (k - a)) x ≡ set l k x = ap (λ (j : ℕ). set l j x) (omega arith) in
    ap (part a m) (sym here) ∙ ap (take m) (drop-set-add a l (k - a) x) ∙ take-set-le m (drop a l) (k - a) x (omega arith)

part_behind : (a m : ℕ) (l : List ℕ) (k x : ℕ) → k < a → part a m (set l k x) ≡ part a m l
part_behind a m l k x h = ap (take m) (drop-set-lt a l k x h)

part_in : (a m : ℕ) (l : List ℕ) (k x : ℕ) → k < m → part a m (set l (a + k) x) ≡ set (part a m l) k x
part_in a m l k x h = ap (take m) (drop-set-add a l k x) ∙ take-set-lt m (drop a l) k x h

pub part_length : (a m : ℕ) (l : List ℕ) → a + m ≤ length l → length (part a m l) ≡ m
part_length a m l h = length-take-le m (drop a l) (rw length-drop (omega arith))

-- ---- what stands in words

-- three parts, and numbers from place 24 on
pub record Stand (words mail pci addon : List ℕ) (n : ℕ → ℕ) : Type 0 where
  pub long : length words ≡ 38
  pub mails : mail_in words ≡ mail
  pub pcis : pci_in words ≡ pci
  pub addons : addon_in words ≡ addon
  pub numbers : (j : ℕ) → 24 ≤ j → number_in words j ≡ n j

pub stand : (l : List ℕ) → length l ≡ 38 → Stand l (mail_in l) (pci_in l) (addon_in l) (number_in l)
stand l h = record { long = h; mails = refl; pcis = refl; addons = refl; numbers = λ j e. refl }

module _ {l mail pci addon : List ℕ} {n : ℕ → ℕ} (s : Stand l mail pci addon n) where
  pub stand-state : state_of_words l ≡ state_in (bank_by n) mail pci addon
  stand-state = λ i. state_in (same i) (s.mails i) (s.pcis i) (s.addons i)
    where
      at : (j : ℕ) → leb 24 j ≡ true → number_in l j ≡ n j
      at j h = s.numbers j (leb-true 24 j h)

      same : bank_by (number_in l) ≡ bank_by n
      same = λ i. record {
        marks = at 24 refl i;
        intcsr = at 25 refl i;
        mcsr = at 26 refl i;
        aint = at 27 refl i;
        from_pci = record { address = at 28 refl i; count = record { 0 = at 29 refl i }; head = at 30 refl i; fill = record { 0 = at 31 refl i }; right = is_right (at 36 refl i) };
        from_addon = record { address = at 32 refl i; count = record { 0 = at 33 refl i }; head = at 34 refl i; fill = record { 0 = at 35 refl i }; right = is_right (at 37 refl i) };
      }

  pub stand-rights : has_rights l ≡ rights_by n
  stand-rights = λ i. ltb (s.numbers 36 (omega arith) i) 2 && ltb (s.numbers 37 (omega arith) i) 2

  longer : (k x : ℕ) → length (set l k x) ≡ 38
  longer k x = length-set l k x ∙ s.long

  -- the numbers stay when a word before them is stored
  below : (k x : ℕ) → k < 24 → (j : ℕ) → 24 ≤ j → number_in (set l k x) j ≡ n j
  below k x h j e = get_or-set_other l k j x 0 (λ z. omega (arith, z)) ∙ s.numbers j e

  pub stand-mail : (k x : ℕ) → k < 8 → Stand (set l k x) (set mail k x) pci addon n
  stand-mail k x h =
      record {
        long = longer k x;
        mails = take-set-lt 8 l k x h ∙ ap (λ (t : List ℕ). set t k x) s.mails;
        pcis = part_behind 8 8 l k x h ∙ s.pcis;
        addons = part_behind 16 8 l k x (omega arith) ∙ s.addons;
        numbers = below k x (omega arith);
      }

  pub stand-pci : (k x : ℕ) → k < 8 → Stand (set l (8 + k) x) mail (set pci k x) addon n
  stand-pci k x h =
      record {
        long = longer (8 + k) x;
        mails = part_before 0 8 l (8 + k) x (omega arith) ∙ s.mails;
        pcis = part_in 8 8 l k x h ∙ ap (λ (t : List ℕ). set t k x) s.pcis;
        addons = part_behind 16 8 l (8 + k) x (omega arith) ∙ s.addons;
        numbers = below (8 + k) x (omega arith);
      }

  pub stand-addon : (k x : ℕ) → k < 8 → Stand (set l (16 + k) x) mail pci (set addon k x) n
  stand-addon k x h =
      record {
        long = longer (16 + k) x;
        mails = part_before 0 8 l (16 + k) x (omega arith) ∙ s.mails;
        pcis = part_before 8 8 l (16 + k) x (omega arith) ∙ s.pcis;
        addons = part_in 16 8 l k x h ∙ ap (λ (t : List ℕ). set t k x) s.addons;
        numbers = below (16 + k) x (omega arith);
      }

  stand-number : (k x : ℕ) → 24 ≤ k → k < 38 → Stand (set l k x) mail pci addon (but k x n)
  stand-number k x h e =
      record {
        long = longer k x;
        mails = part_before 0 8 l k x (omega arith) ∙ s.mails;
        pcis = part_before 8 8 l k x (omega arith) ∙ s.pcis;
        addons = part_before 16 8 l k x (omega arith) ∙ s.addons;
        numbers = λ j f. number_set l k x j (omega (arith, s.long)) ∙ ap (cond (eqb j k) x) (s.numbers j f);
      }

-- numbers stored one after the other
abbrev pub puts : List ℕ → List (ℕ × ℕ) → List ℕ
puts l [] = l
puts l (p ∷ ps) = puts (set l p.0 p.1) ps

abbrev pub buts : List (ℕ × ℕ) → (ℕ → ℕ) → ℕ → ℕ
buts [] n = n
buts (p ∷ ps) n = buts ps (but p.0 p.1 n)

abbrev pub are_numbers : List (ℕ × ℕ) → Bool
are_numbers [] = true
are_numbers (p ∷ ps) = (leb 24 p.0 && ltb p.0 38) && are_numbers ps

pub stand_numbers : {l mail pci addon : List ℕ} {n : ℕ → ℕ} (ps : List (ℕ × ℕ)) → are_numbers ps ≡ true → Stand l mail pci addon n → Stand (puts l ps) mail pci addon (buts ps n)
stand_numbers [] h s = s
stand_numbers {l = l} {mail = mail} {pci = pci} {addon = addon} {n = n} (p ∷ ps) h s =
    let here = and_left (leb 24 p.0 && ltb p.0 38) (are_numbers ps) h in
    stand_numbers {l = set l p.0 p.1} {mail = mail} {pci = pci} {addon = addon} {n = but p.0 p.1 n} ps (and_right (leb 24 p.0 && ltb p.0 38) (are_numbers ps) h)
    (stand-number s p.0 p.1 (leb-true 24 p.0 (and_left (leb 24 p.0) (ltb p.0 38) here)) (ltb-true p.0 38 (and_right (leb 24 p.0) (ltb p.0 38) here)))

-- ---- a right as a word

pub right_word : (b : Bool) → is_right (bool_byte b) ≡ b
right_word true = refl
right_word false = refl

pub right_small : (b : Bool) → ltb (bool_byte b) 2 ≡ true
right_small true = refl
right_small false = refl

-- ---- a run of eight words in place of those that stood there

module _ (b : ℕ) (run l : List ℕ) (long : length run ≡ 8) (inside : b ≤ length l) where
  head_long : length (take b l) ≡ b
  head_long = length-take-le b l inside

  front_long : length (take b l ++ run) ≡ b + 8
  front_long = length-append (take b l) run ∙ omega (arith, head_long, long)

  run_in : part b 8 (with_run b run l) ≡ run
  run_in =
      ap (take 8) (drop-append-le b (take b l ++ run) (drop (b + 8) l) (omega (arith, front_long)) ∙ ap (λ (t : List ℕ). t ++ drop (b + 8) l) (drop-append-le b (take b l) run (omega (arith, head_long)) ∙ ap (λ (t : List ℕ). t ++ run) (drop_all b (take b l) (omega (arith, head_long)))))
      ∙ take-append-le 8 run (drop (b + 8) l) (omega (arith, long)) ∙ take_all 8 run (omega (arith, long))

  run_before : (a m : ℕ) → a + m ≤ b → part a m (with_run b run l) ≡ part a m l
  run_before a m h =
      sym (drop-take a m (with_run b run l))
      ∙ ap (drop a) (take-append-le (a + m) (take b l ++ run) (drop (b + 8) l) (omega (arith, front_long)) ∙ take-append-le (a + m) (take b l) run (omega (arith, head_long)) ∙ take-take (a + m) b l h)
      ∙ drop-take a m l

  run_behind : (a m : ℕ) → b + 8 ≤ a → part a m (with_run b run l) ≡ part a m l
  run_behind a m h = ap (take m) (drop-append-drop (b + 8) l (take b l ++ run) a h front_long)

  number_behind : (j : ℕ) → b + 8 ≤ j → number_in (with_run b run l) j ≡ number_in l j
  number_behind j h = get_or-append_right (take b l ++ run) (drop (b + 8) l) j 0 (omega (arith, front_long)) ∙ get_or-drop (b + 8) l (j - length (take b l ++ run)) 0 ∙ ap (λ (k : ℕ). get_or l k 0) (omega (arith, front_long))

  run_long : b + 8 ≤ length l → length (with_run b run l) ≡ length l
  run_long h = length-append (take b l ++ run) (drop (b + 8) l) ∙ omega (arith, front_long, length-drop (b + 8) l)

module _ {l mail pcis addons : List ℕ} {n : ℕ → ℕ} (s : Stand l mail pcis addons n) (run : List ℕ) (long : length run ≡ 8) where
  within : (b : ℕ) → b ≤ 38 → b ≤ length l
  within b h = omega (arith, h, s.long)

  pub stand-mails : Stand (with_run 0 run l) run pcis addons n
  stand-mails =
      let h = within 0 (omega arith) in
      record {
        long = run_long 0 run l long h (within 8 (omega arith)) ∙ s.long;
        mails = run_in 0 run l long h;
        pcis = run_behind 0 run l long h 8 8 (omega arith) ∙ s.pcis;
        addons = run_behind 0 run l long h 16 8 (omega arith) ∙ s.addons;
        numbers = λ j e. number_behind 0 run l long h j (omega (arith, e)) ∙ s.numbers j e;
      }

  pub stand-pcis : Stand (with_run 8 run l) mail run addons n
  stand-pcis =
      let h = within 8 (omega arith) in
      record {
        long = run_long 8 run l long h (within 16 (omega arith)) ∙ s.long;
        mails = run_before 8 run l long h 0 8 (omega arith) ∙ s.mails;
        pcis = run_in 8 run l long h;
        addons = run_behind 8 run l long h 16 8 (omega arith) ∙ s.addons;
        numbers = λ j e. number_behind 8 run l long h j (omega (arith, e)) ∙ s.numbers j e;
      }

  pub stand-addons : Stand (with_run 16 run l) mail pcis run n
  stand-addons =
      let h = within 16 (omega arith) in
      record {
        long = run_long 16 run l long h (within 24 (omega arith)) ∙ s.long;
        mails = run_before 16 run l long h 0 8 (omega arith) ∙ s.mails;
        pcis = run_before 16 run l long h 8 8 (omega arith) ∙ s.pcis;
        addons = run_in 16 run l long h;
        numbers = λ j e. number_behind 16 run l long h j (omega (arith, e)) ∙ s.numbers j e;
      }
