-- Logs with their labels cut off.
use Rattle.std.proofs.Common.{◌≡◌, ℕ, Bool, true, false, cond, not, ◌&&◌, ◌||◌, eqb, List, [], ◌∷◌, ◌++◌, length, sym, refl, ap, ◌∙◌, append_assoc, arith, length-append, ne_eqb}
use Rattle.machine.specs.State.{State, reset_state}
use Rattle.machine.specs.Window.{zero_words}
use Rattle.machine.specs.declared.Answer.{Answer}
use Rattle.hex_digits.specs.Hex.{bytes, hex_digits, digit_of}
use Rattle.laws.proofs.Below.{both}
use Rattle.lines.specs.Lines.{lines}
use Rattle.logline.specs.Labels.{label_of}
use Rattle.logline.specs.LogLine.{numbers, log_body, log_line}
use Rattle.logline.proofs.Labels.{every}
use Rattle.logline.proofs.Bytes.{every-number}
use Rattle.frame_log.specs.Log.{log_of, text_outcome}
use Rattle.frame_log.specs.Results.{is_short, text_run}
use Rattle.frame_log.specs.Promises.{program_log}
use Rattle.frame_log.specs.Cut.{cut_from, cut, numbers_of, CutNumbers, CutSame, SetApart, label_bytes, LengthsApart}
use Rattle.frame_log.proofs.Bodies.{is_other, not_lf, no_label}

-- neither an LF nor a space
abbrev stays : ℕ → Bool
stays x = is_other x && not (eqb x 32)

stay_by : (t s : Bool) (a b c : List ℕ) → (not t && not s) ≡ true → cond t a (cond (false || s) b c) ≡ c
stay_by false false a b c e = refl
stay_by false true a b c e = let z : false ≡ true = e in let w : ◌≡◌ {A = ℕ} 0 1 = cc in absurd (omega arith)
stay_by true s a b c e = let z : false ≡ true = e in let w : ◌≡◌ {A = ℕ} 0 1 = cc in absurd (omega arith)

-- before a space all stays
kept : (xs ys : List ℕ) → every stays xs ≡ true → cut (xs ++ ys) ≡ xs ++ cut ys
unfolding cut_from
kept [] ys e = refl
kept (x ∷ xs) ys e =
    let parts = both (stays x) (every stays xs) e in
    stay_by (eqb x 10) (eqb x 32) _ _ _ parts.0 ∙ ap (λ (l : List ℕ). x ∷ l) (kept xs ys parts.1)

-- past it nothing does, up to the LF
gone : (xs ys : List ℕ) → every is_other xs ≡ true → cut_from true (xs ++ (10 ∷ ys)) ≡ 10 ∷ cut ys
unfolding cut_from
gone [] ys e = refl
gone (x ∷ xs) ys e =
    let parts = both (is_other x) (every is_other xs) e in
    rw (ne_eqb x 10 (not_lf x parts.0)) (gone xs ys parts.1)

space : (xs : List ℕ) → cut (32 ∷ xs) ≡ cut_from true xs
unfolding cut_from
space xs = refl

module _ (set : ℕ) (a : Answer) (more : List ℕ) where
  joined : log_line set a ++ more ≡ numbers a ++ (32 ∷ (label_of set a.code ++ (10 ∷ more)))
  unfolding log_line log_body
  joined =
      append_assoc (numbers a ++ bytes " " ++ label_of set a.code) (bytes "\n") more
      ∙ append_assoc (numbers a ++ bytes " ") (label_of set a.code) (bytes "\n" ++ more)
      ∙ append_assoc (numbers a) (bytes " ") (label_of set a.code ++ (bytes "\n" ++ more))

  line-cut : cut (log_line set a ++ more) ≡ numbers a ++ (10 ∷ cut more)
  unfolding hex_digits digit_of
  line-cut =
      ap cut joined
      ∙ kept (numbers a) (32 ∷ (label_of set a.code ++ (10 ∷ more))) (every-number stays refl a)
      ∙ ap (λ (l : List ℕ). numbers a ++ l) (space (label_of set a.code ++ (10 ∷ more)) ∙ gone (label_of set a.code) more (no_label set a.code))

pub cut_numbers : CutNumbers
unfolding log_of numbers_of cut_from
cut_numbers set [] = refl
cut_numbers set (a ∷ more) = line-cut set a (log_of set more) ∙ ap (λ (l : List ℕ). numbers a ++ (10 ∷ l)) (cut_numbers set more)

pub cut_same : CutSame
unfolding program_log
cut_same set other text = let answers = (text_outcome reset_state 0 zero_words text).answers in cut_numbers set answers ∙ sym (cut_numbers other answers)

module _ (set other : ℕ) (st : State) (start : ℕ) (memory text out : List ℕ) where
  apart_by : (t : Bool) → is_short (length (lines text)) out ≡ t
      → ((text_run set st start memory text out).state ≡ (text_run other st start memory text out).state)
      × ((text_run set st start memory text out).memory ≡ (text_run other st start memory text out).memory)
  unfolding text_run
  apart_by true q = rw q (refl, refl)
  apart_by false q = rw q (refl, refl)

pub set_apart : SetApart
set_apart set other st start memory text out = apart_by set other st start memory text out (is_short (length (lines text)) out) refl

pub lengths_apart : LengthsApart
unfolding log_of label_bytes log_line log_body
lengths_apart set other [] = refl
lengths_apart set other (a ∷ more) = simp length-append (omega (arith, lengths_apart set other more))
