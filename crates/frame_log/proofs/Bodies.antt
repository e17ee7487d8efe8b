-- A log line has its LF at its end alone, so the log of answers has one line for each.
--     is_lf, not_lf      what a byte that is no LF is
--     no_label          no label has an LF
use Rattle.std.proofs.Common.{◌≡◌, ℕ, Bool, true, false, not, eqb, List, [], ◌∷◌, ◌++◌, refl, ap, ◌∙◌, append_assoc, append-nil, arith, eq-eqb}
use Rattle.machine.specs.declared.Answer.{Answer}
use Rattle.hex_digits.specs.Hex.{bytes, hex_digits, digit_of}
use Rattle.laws.proofs.Below.{both}
use Rattle.lines.specs.Lines.{lines_from}
use Rattle.lines.proofs.Lines.{lines_lf, lines_other, lines_stop}
use Rattle.logline.specs.Labels.{english, german, label_sets, label_of}
use Rattle.logline.specs.LogLine.{numbers, log_body, log_line}
use Rattle.logline.proofs.Labels.{every, every-label}
use Rattle.logline.proofs.Bytes.{every_append, every-number}
use Rattle.frame_log.specs.Log.{log_of}
use Rattle.frame_log.specs.Promises.{OneLineEach}

abbrev pub is_other : ℕ → Bool
is_other x = not (eqb x 10)

pub no_label : (set code : ℕ) → every is_other (label_of set code) ≡ true
unfolding label_sets english german
no_label set code = every-label (every is_other) refl refl set code

no_body : (set : ℕ) (a : Answer) → every is_other (log_body set a) ≡ true
unfolding log_body hex_digits digit_of
no_body set a =
    every_append is_other (numbers a ++ bytes " ") (label_of set a.code) (every_append is_other (numbers a) (bytes " ") (every-number is_other refl a) refl) (no_label set a.code)

-- bytes with no LF before an LF are one line
pub not_lf : (x : ℕ) → is_other x ≡ true → x ≡ 10 → ⊥
not_lf x e q = let z : false ≡ true = rw (eq-eqb x 10 q) at e in let w : ◌≡◌ {A = ℕ} 0 1 = cc in absurd (omega arith)

body_line : (begun xs ys : List ℕ) → every is_other xs ≡ true → lines_from begun (xs ++ (10 ∷ ys)) ≡ (begun ++ xs) ∷ lines_from [] ys
body_line begun [] ys e = lines_lf begun 10 ys refl ∙ rw append-nil
body_line begun (x ∷ xs) ys e =
    let parts = both (is_other x) (every is_other xs) e in
    lines_other begun x (xs ++ (10 ∷ ys)) (not_lf x parts.0) ∙ body_line (begun ++ (x ∷ [])) xs ys parts.1 ∙ rw append_assoc

pub one_line_each : OneLineEach
unfolding log_of log_line
one_line_each set [] = lines_stop [] refl
one_line_each set (a ∷ answers) =
    rw (append_assoc (log_body set a) (bytes "\n") (log_of set answers)) (body_line [] (log_body set a) (log_of set answers) (no_body set a))
    ∙ ap (λ (ls : List (List ℕ)). log_body set a ∷ ls) (one_line_each set answers)
