-- The reading is over as soon as the first line can be none of a set, and not before; and what else is promised of inputs.
use Prim.Native.Nat.{ℕ, zero, suc, ◌+◌, ◌*◌}
use mathlib.Core.Path.{◌≡◌, refl, sym, ap, ◌∙◌}
use mathlib.Core.Bool.{Bool, true, false, cond, ◌&&◌, true≢false}
use mathlib.Core.List.{List, [], ◌∷◌, ◌++◌, append_assoc}
use native.Mathlib.Omega.{arith}
use native.Mathlib.Decide.{ℕ_discrete}
use borrow.Author.Tests.{ltb-true}
use lib.ListN.{drop}
use lib.Dec.{ltb}
use Rattle.hex_digits.specs.Hex.{bytes, hex_digits, place_in, digit_number, digit_of, all_digits, number_from, number, digits}
use Rattle.logline.specs.Labels.{label_sets, is_set}
use Rattle.logline.specs.LogLine.{refusal}
use Rattle.logline.proofs.Labels.{every}
use Rattle.logline.proofs.Bytes.{every-digits}
use Rattle.logline.proofs.Room.{refusal_line}
use Rattle.lines.specs.Lines.{lines_from, until_lf, line_at, line_end, past_line}
use Rattle.laws.proofs.Below.{both}
use Rattle.frame_log.specs.Log.{log_of, lines_outcome}
use Rattle.frame_log.specs.Promises.{program_log}
use Rattle.frame_log.specs.Cut.{cut}
use Rattle.frame_log.proofs.Bodies.{is_other, not_lf}
use Rattle.frame_log.proofs.Cut.{cut_same}
use Rattle.input.specs.declared.Reading.{Reading}
use Rattle.input.specs.declared.Reading.TheVariants.{FirstLine, Frames, Over}
use Rattle.input.specs.declared.SetLine.{SetLine}
use Rattle.input.specs.declared.SetLine.TheVariants.{Nothing, Digit, Number}
use Rattle.input.specs.Input.{is_set_line, input_log, heard, passing}
use Rattle.input.specs.Promises.{OverAtOnce, SetChosen, InputsCut, UnknownSet, SetAtEnd}
use Rattle.input.proofs.Passing.{heard-lf, heard-other, heard-second, heard-no-second, heard-first, heard-no-first}
use Rattle.input.proofs.FirstLine.{first_line, first_none, first-lf, first_more, past, past-lf, past-on, none_empty, none_short, none_long, pair, none-second, is-second, none_first, set_line_read, set_line_only}
use Rattle.input.proofs.ByFirst.{lf_first, lf_second, first_digit}

-- ---- over at once

-- no bytes that may follow make a set line
abbrev None : List ℕ → List ℕ → Type 0
None begun xs = (ys : List ℕ) → is_set_line (begun ++ first_line (xs ++ ys)) ≡ false

-- what is known after the bytes `begun` of the first line, from a reading on
record Known (begun : List ℕ) (r : Reading) (xs : List ℕ) : Type 0 where
  known : (passing r xs).reading ≡ Over → None begun xs
  not_before : None begun xs → (passing r xs).reading ≡ Over

not_over : (line : SetLine) → FirstLine line ≡ Over → ⊥
not_over line e = let w : ◌≡◌ {A = ℕ} 0 1 = cc in absurd (omega arith)

frames_on : (set : ℕ) (xs : List ℕ) → (passing (Frames set) xs).reading ≡ Over → ⊥
unfolding passing
frames_on set [] e = let z : Frames set ≡ Over = e in let w : ◌≡◌ {A = ℕ} 0 1 = cc in absurd (omega arith)
frames_on set (x ∷ xs) e = let z : Frames set ≡ Over = e in let w : ◌≡◌ {A = ℕ} 0 1 = cc in absurd (omega arith)

over_stays : (xs : List ℕ) → (passing Over xs).reading ≡ Over
unfolding passing
over_stays [] = refl
over_stays (x ∷ xs) = refl

-- one byte more of the set line
more_known : (begun : List ℕ) (line : SetLine) (x : ℕ) (xs : List ℕ) (r : Reading) → heard line x ≡ r → (passing (FirstLine line) (x ∷ xs)).reading ≡ (passing r xs).reading
unfolding passing
more_known begun line x xs r e = ap (λ (q : Reading). (passing q xs).reading) e

-- a byte that ends the reading, and rightly
over_known : (begun : List ℕ) (line : SetLine) (x : ℕ) (xs : List ℕ) → heard line x ≡ Over → None begun (x ∷ xs) → Known begun (FirstLine line) (x ∷ xs)
over_known begun line x xs e none = record { known = λ o. none; not_before = λ n. more_known begun line x xs Over e ∙ over_stays xs }

-- no byte yet, and one that makes a set line
none_known : (begun : List ℕ) (line : SetLine) (ys : List ℕ) → is_set_line (begun ++ first_line ys) ≡ true → Known begun (FirstLine line) []
unfolding passing
none_known begun line ys s = record { known = λ o. absurd (not_over line o); not_before = λ n. absurd (true≢false (sym s ∙ n ys)) }

-- a byte that is carried on
on_known : (begun : List ℕ) (line next : SetLine) (x : ℕ) (xs : List ℕ) → (x ≡ 10 → ⊥) → heard line x ≡ FirstLine next
    → Known (begun ++ (x ∷ [])) (FirstLine next) xs → Known begun (FirstLine line) (x ∷ xs)
on_known begun line next x xs e h k =
    let m = more_known begun line x xs (FirstLine next) h in
    let same : (ys : List ℕ) → begun ++ first_line (x ∷ (xs ++ ys)) ≡ (begun ++ (x ∷ [])) ++ first_line (xs ++ ys) = λ ys. rw (first_more x (xs ++ ys) e, append_assoc) in
    record {
      known = λ o ys. ap is_set_line (same ys) ∙ k.known (sym m ∙ o) ys;
      not_before = λ n. m ∙ k.not_before (λ ys. ap is_set_line (sym (same ys)) ∙ n ys);
    }

module _ (a b : ℕ) (s : is_set_line (a ∷ b ∷ []) ≡ true) where
  both-known : (set : ℕ) (xs : List ℕ) → Known (a ∷ b ∷ []) (FirstLine (Number set)) xs
  both-known set [] = none_known (a ∷ b ∷ []) (Number set) [] (rw first_none s)
  both-known set (x ∷ xs) = by (ℕ_discrete x 10)
    where
      by : Dec (x ≡ 10) → Known (a ∷ b ∷ []) (FirstLine (Number set)) (x ∷ xs)
      by (yes e) =
          let m = more_known (a ∷ b ∷ []) (Number set) x xs (Frames set) (heard-lf x set e) in
          record {
            known = λ o. absurd (frames_on set xs (sym m ∙ o));
            not_before = λ n. absurd (true≢false (sym s ∙ (rw (first-lf x (xs ++ []) e) at (n []))));
          }
      by (no e) = over_known (a ∷ b ∷ []) (Number set) x xs (heard-other x set e) (λ ys. rw (first_more x (xs ++ ys) e) (none_long a b x (first_line (xs ++ ys))))

zero_digit : digit_number 48 ≡ 0
unfolding digit_number place_in hex_digits
zero_digit = refl

module _ (a : ℕ) (d : ltb (digit_number a) 16 ≡ true) (f : is_set (16 * digit_number a) ≡ true) where
  with-zero : is_set_line (a ∷ 48 ∷ []) ≡ true
  with-zero = let z : 16 * digit_number a + 0 ≡ 16 * digit_number a = omega arith in is-second a 48 d (rw (zero_digit, z) f)

  one_known : (xs : List ℕ) → Known (a ∷ []) (FirstLine (Digit (digit_number a))) xs
  one_known [] = none_known (a ∷ []) (Digit (digit_number a)) (48 ∷ []) (rw (first_more 48 [] (λ e. omega arith), first_none) with-zero)
  one_known (x ∷ xs) = by (ℕ_discrete x 10) (ltb (digit_number x) 16 && is_set (pair a x)) refl
    where
      by : Dec (x ≡ 10) → (t : Bool) → (ltb (digit_number x) 16 && is_set (pair a x)) ≡ t → Known (a ∷ []) (FirstLine (Digit (digit_number a))) (x ∷ xs)
      by (yes e) t q = over_known (a ∷ []) (Digit (digit_number a)) x xs (heard-no-second x (digit_number a) (lf_second (digit_number a) x e)) (λ ys. rw (first-lf x (xs ++ ys) e) (none_short a))
      by (no e) true q = on_known (a ∷ []) (Digit (digit_number a)) (Number (pair a x)) x xs e (heard-second x (digit_number a) q) (both-known a x (is-second a x d q) (pair a x) xs)
      by (no e) false q = over_known (a ∷ []) (Digit (digit_number a)) x xs (heard-no-second x (digit_number a) q) (λ ys. rw (first_more x (xs ++ ys) e) (none-second a x q (first_line (xs ++ ys))))

zeros : is_set_line (48 ∷ 48 ∷ []) ≡ true
unfolding is_set_line all_digits digit_number place_in hex_digits is_set label_sets number_from
zeros = refl

start_known : (xs : List ℕ) → Known [] (FirstLine Nothing) xs
start_known [] = none_known [] Nothing (48 ∷ 48 ∷ []) (rw (first_more 48 (48 ∷ []) (λ e. omega arith), first_more 48 [] (λ e. omega arith), first_none) zeros)
start_known (x ∷ xs) = by (ℕ_discrete x 10) (is_set (16 * digit_number x)) refl
  where
    by : Dec (x ≡ 10) → (t : Bool) → is_set (16 * digit_number x) ≡ t → Known [] (FirstLine Nothing) (x ∷ xs)
    by (yes e) t q = over_known [] Nothing x xs (heard-no-first x (lf_first x e)) (λ ys. rw (first-lf x (xs ++ ys) e) none_empty)
    by (no e) true q = on_known [] Nothing (Digit (digit_number x)) x xs e (heard-first x q) (one_known x (first_digit x q) q xs)
    by (no e) false q = over_known [] Nothing x xs (heard-no-first x q) (λ ys. rw (first_more x (xs ++ ys) e) (none_first x q (first_line (xs ++ ys))))

pub over_at_once : OverAtOnce
over_at_once xs = let k = start_known xs in record { known = k.known; not_before = k.not_before }

-- ---- sets chosen by the first line

no_lf : (xs ys : List ℕ) → every is_other xs ≡ true → (first_line (xs ++ (10 ∷ ys)) ≡ xs) × (past (xs ++ (10 ∷ ys)) ≡ ys)
no_lf [] ys e = (first-lf 10 ys refl, past-lf 10 ys refl)
no_lf (x ∷ xs) ys e =
    let parts = both (is_other x) (every is_other xs) e in
    let other = not_lf x parts.0 in
    let rest = no_lf xs ys parts.1 in
    (first_more x (xs ++ (10 ∷ ys)) other ∙ ap (λ (l : List ℕ). x ∷ l) rest.0, past-on x (xs ++ (10 ∷ ys)) other ∙ rest.1)

pub set_chosen : SetChosen
unfolding input_log hex_digits digit_of
set_chosen set text s =
    let line = no_lf (digits 2 set) text (every-digits is_other refl 2 set) in
    let r = set_line_read set s in
    rw (line.0, line.1, r.0, r.1)

pub inputs_cut : InputsCut
inputs_cut set other text s o = ap cut (set_chosen set text s) ∙ cut_same set other text ∙ sym (ap cut (set_chosen other text o))

-- ---- a first line that is none of a set, and one that the end of the input ends

two_digits : (digits 2 0 ≡ bytes "00") × (digits 2 1 ≡ bytes "01")
unfolding digits digit_of hex_digits
two_digits = (refl, refl)

-- a set's line is one of the two
one_of_two : (line : List ℕ) (set : ℕ) → is_set set ≡ true → line ≡ digits 2 set → (line ≡ bytes "00" → ⊥) → (line ≡ bytes "01" → ⊥) → ⊥
unfolding is_set label_sets
one_of_two line zero s l e f = e (l ∙ two_digits.0)
one_of_two line (suc zero) s l e f = f (l ∙ two_digits.1)
one_of_two line (suc (suc n)) s l e f = let h = ltb-true (suc (suc n)) 2 s in absurd (omega arith)

pub unknown_set_lem : UnknownSet
unfolding input_log
unknown_set_lem input e f = by (is_set_line (line_at input 0)) refl
  where
    by : (t : Bool) → is_set_line (line_at input 0) ≡ t → cond t (program_log (number (line_at input 0)) (drop (past_line input 0) input)) refusal ≡ bytes "0F0000000000000000000 unknown label set\n"
    by true q = let o = set_line_only (line_at input 0) q in absurd (one_of_two (line_at input 0) (number (line_at input 0)) o.0 o.1 e f)
    by false q = refusal_line

pub set_at_end : SetAtEnd
unfolding input_log line_at until_lf is_set_line all_digits digit_number place_in hex_digits is_set label_sets number_from past_line line_end program_log lines_from lines_outcome log_of
set_at_end = (refl, refl)
