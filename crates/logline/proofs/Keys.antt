-- No two labels are alike, and the digits of a log line are the answer as the log shows it.
use Prim.Native.Nat.{ℕ, ◌<◌, ◌^◌}
use mathlib.Core.Path.{◌≡◌, refl, sym, ap, ◌∙◌}
use mathlib.Core.Bool.{Bool, true, false, cond, ◌&&◌}
use mathlib.Core.List.{List, [], ◌∷◌, ◌++◌, append_assoc}
use native.Mathlib.Omega.{arith}
use lib.Dec.{eqb, ltb, lit<}
use borrow.Author.Tests.{eqb-true, eq-eqb, ltb-true, ltb-false, lt-ltb}
use lib.ListN.{length, take, length-append}
use lib.Seq.{take-append_seam, drop-append_seam}
use Rattle.machine.specs.Event.{logged}
use Rattle.machine.specs.declared.Answer.{Answer}
use Rattle.hex_digits.specs.Hex.{bytes, digits, number}
use Rattle.laws.proofs.Below.{below, below_at}
use Rattle.hex_digits.proofs.Numbers.{length_digits, number_digits}
use Rattle.logline.specs.Labels.{english, german, label_sets, is_set, label_in, label_of}
use Rattle.logline.specs.LogLine.{numbers, log_body, log_line}
use Rattle.logline.specs.Promises.{LabelsDiffer}
use Rattle.logline.proofs.Labels.{past_24}

-- ---- labels, by a test of every pair

unfoldable pub same : List ℕ → List ℕ → Bool
same [] [] = true
same [] (y ∷ ys) = false
same (x ∷ xs) [] = false
same (x ∷ xs) (y ∷ ys) = eqb x y && same xs ys

pub same_self : (xs : List ℕ) → same xs xs ≡ true
unfolding same
same_self [] = refl
same_self (x ∷ xs) = rw (eq-eqb x x refl) (same_self xs)

-- alike only if they are of one code, or there is none
alone : ℕ → ℕ → ℕ → Bool
alone set code other = cond (ltb 0 (length (label_of set code))) (cond (same (label_of set code) (label_of set other)) (eqb code other) true) true

all_alone : ℕ → Bool
all_alone set = below (λ code. below (λ other. alone set code other) 25) 25

all_alone_lem : (set : ℕ) → is_set set ≡ true → all_alone set ≡ true
unfolding label_sets english german is_set label_in label_of same alone all_alone
all_alone_lem set s = below_at all_alone (length label_sets) set refl (ltb-true set (length label_sets) s)

-- a code that has a label is at most 24
few : (set code : ℕ) (b : Bool) → ltb code 25 ≡ b → 0 < length (label_of set code) → code < 25
few set code true e h = ltb-true code 25 e
few set code false e h = absurd (let none = past_24 set code (ltb-false code 25 e) in let z : 0 < 0 = rw (← ap length none) h in omega arith)

pub labels_differ : LabelsDiffer
unfolding alone all_alone
labels_differ set code other s there e =
    let also : 0 < length (label_of set other) = rw (← e) there in
    let row = below_at (λ c. below (λ o. alone set c o) 25) 25 code (all_alone_lem set s) (few set code (ltb code 25) refl there) in
    let one = below_at (λ o. alone set code o) 25 other row (few set other (ltb other 25) refl also) in
    let like : same (label_of set code) (label_of set other) ≡ true = rw (← e) (same_self (label_of set code)) in
    eqb-true code other (rw (lt-ltb 0 (length (label_of set code)) there, like) at one)

-- ---- digits

module _ (xs ys zs ws : List ℕ) (n : length xs ≡ length zs) (e : (xs ++ ys) ≡ (zs ++ ws)) where
  heads : xs ≡ zs
  heads = sym (take-append_seam xs ys) ∙ rw (e, n) (take-append_seam zs ws)

  tails : ys ≡ ws
  tails = sym (drop-append_seam xs ys) ∙ rw (e, n) (drop-append_seam zs ws)

one : (n x y : ℕ) → x < 16 ^ n → y < 16 ^ n → digits n x ≡ digits n y → x ≡ y
one n x y h k e = sym (number_digits n x h) ∙ ap number e ∙ number_digits n y k

line_key : (s t : Bool) → digits 1 (cond s 1 0) ≡ digits 1 (cond t 1 0) → s ≡ t
line_key true true e = refl
line_key true false e = absurd (let z = one 1 1 0 (lit< tt) (lit< tt) e in omega arith)
line_key false true e = absurd (let z = one 1 0 1 (lit< tt) (lit< tt) e in omega arith)
line_key false false e = refl

length_numbers : (a : Answer) → length (numbers a) ≡ 21
unfolding numbers
length_numbers a = simp (length-append, length_digits)

first_21 : (set : ℕ) (a : Answer) → take 21 (log_line set a) ≡ numbers a
unfolding log_body log_line
first_21 set a =
    let n : length (numbers a) ≡ 21 = length_numbers a in
    rw (append_assoc (numbers a ++ bytes " "), append_assoc (numbers a), ← n) (take-append_seam (numbers a) _)

-- the numbers of an answer have no more digits than the log gives them
pub record InDigits (a : Answer) : Type 0 where
  pub code : a.code < 16 ^ 2
  pub address : a.address < 16 ^ 8
  pub value : a.value < 16 ^ 8
  pub enables : a.enables < 16 ^ 1

pub digits_are_key : (set other : ℕ) (a b : Answer) → InDigits a → InDigits b → take 21 (log_line set a) ≡ take 21 (log_line other b) → logged a ≡ logged b
unfolding numbers
digits_are_key set other a b f g e =
    let all = sym (first_21 set a) ∙ e ∙ first_21 other b in
    let c = digits 2 a.code in
    let c' = digits 2 b.code in
    let d = c ++ digits 8 a.address in
    let d' = c' ++ digits 8 b.address in
    let v = d ++ digits 8 a.value in
    let v' = d' ++ digits 8 b.value in
    let n = v ++ digits 1 a.enables in
    let n' = v' ++ digits 1 b.enables in
    let m = n ++ digits 1 (cond a.line 1 0) in
    let m' = n' ++ digits 1 (cond b.line 1 0) in
    let l = digits 1 (cond a.addon_line 1 0) in
    let l' = digits 1 (cond b.addon_line 1 0) in
    let m_long : length m ≡ length m' = simp (length-append, length_digits) in
    let n_long : length n ≡ length n' = simp (length-append, length_digits) in
    let v_long : length v ≡ length v' = simp (length-append, length_digits) in
    let d_long : length d ≡ length d' = simp (length-append, length_digits) in
    let c_long : length c ≡ length c' = simp (length_digits) in
    let m_same : m ≡ m' = heads m l m' l' m_long all in
    let n_same : n ≡ n' = heads n (digits 1 (cond a.line 1 0)) n' (digits 1 (cond b.line 1 0)) n_long m_same in
    let v_same : v ≡ v' = heads v (digits 1 a.enables) v' (digits 1 b.enables) v_long n_same in
    let d_same : d ≡ d' = heads d (digits 8 a.value) d' (digits 8 b.value) d_long v_same in
    let code = one 2 a.code b.code f.code g.code (heads c (digits 8 a.address) c' (digits 8 b.address) c_long d_same) in
    let address = one 8 a.address b.address f.address g.address (tails c (digits 8 a.address) c' (digits 8 b.address) c_long d_same) in
    let value = one 8 a.value b.value f.value g.value (tails d (digits 8 a.value) d' (digits 8 b.value) d_long v_same) in
    let enables = one 1 a.enables b.enables f.enables g.enables (tails v (digits 1 a.enables) v' (digits 1 b.enables) v_long n_same) in
    let line = line_key a.line b.line (tails n (digits 1 (cond a.line 1 0)) n' (digits 1 (cond b.line 1 0)) n_long m_same) in
    let addon = line_key a.addon_line b.addon_line (tails m l m' l' m_long all) in
    λ i. record { code = code i; address = address i; value = value i; enables = enables i; line = line i; addon_line = addon i; changed = 0 }
