-- What the C calls for windows make of an answer.
--     minus_is, minus_fits     a code with a minus
--     length_fits, export_fits     the length of a text is a number of theirs
--     length_rule, export_rule, load_rule     what they say, by numbers
use Prim.Native.Nat.{ℕ, zero, suc, ◌-◌, ◌*◌, ◌%◌, ◌^◌, min, ◌<◌, ◌≤◌}
use mathlib.Core.Path.{◌≡◌, refl, sym, ap, ◌∙◌}
use mathlib.Core.Bool.{Bool, true, false, cond}
use mathlib.Core.List.{List, ◌++◌}
use native.Mathlib.Nat.{le_refl}
use native.Mathlib.Omega.{arith}
use lib.IntN.{ℤ, pos, negsuc, neg_ℤ, ◌-ℤ◌}
use lib.ListN.{length, drop, length-append, length-drop}
use lib.Dec.{ltb, eqb}
use borrow.Author.Tests.{lt-ltb, le-ltb, ne_eqb}
use mir.Syntax.{w64}
use mir.Val.{SFits, to_z, of_z}
use mir.ValLaws.{to_z_pos, to_z-of_z}
use Rattle.machine.specs.Window.{is_window_out_of_form}
use Rattle.records.specs.Window.{window_bytes, window_words}
use Rattle.records.specs.Load.{code_from, code_of, said, stored, load_of}
use Rattle.records.specs.Export.{export_of, export_length}
use Rattle.records.proofs.Length.{export_length_lem}
use Rattle.records.proofs.Promises.{good_window}
use Rattle.records.proofs.Loads.{text_code_is, unsaid_stays, later_holds}
use Rattle.std.proofs.Common.{Result, Ok, Err}
use Rattle.machine.specs.declared.codes.Refusal.{Refusal}
use Rattle.machine.specs.declared.codes.Refusal.TheVariants.{WindowOutOfForm, OutputTooShort}
use Rattle.hex_export.specs.Results.{Export, length_of, exported_to}
use Rattle.station.specs.HexCalls.{minus_code, exported_number, Fits, length_result, ExportUnique, LoadUnique, LengthRule, ExportRule, LoadRule}

zero_minus : (n : ℕ) → pos 0 -ℤ pos n ≡ neg_ℤ (pos n)
zero_minus zero = refl
zero_minus (suc n) =
    let one : suc n - 1 ≡ n = omega arith in
    rw (lt-ltb 0 (suc n) (omega arith)) (ap negsuc one)

module _ (n : ℕ) (h : n < 2 ^ 32) where
  pub minus_is : pos 0 -ℤ to_z w64 n ≡ minus_code n
  minus_is = ap (λ (z : ℤ). pos 0 -ℤ z) (to_z_pos w64 n (omega arith)) ∙ zero_minus n

  small : (n : ℕ) → n < 2 ^ 32 → SFits w64 (neg_ℤ (pos n))
  small zero k = record { sfits = omega arith }
  small (suc n) k = record { sfits = omega arith }

  pub minus_fits : SFits w64 (pos 0 -ℤ to_z w64 n)
  minus_fits = rw minus_is (small n h)

  pub minus_back : to_z w64 (of_z w64 (pos 0 -ℤ to_z w64 n)) ≡ minus_code n
  minus_back = to_z-of_z w64 _ minus_fits ∙ minus_is

upper_small : (t : Bool) → cond t 0 16 ≤ 16
upper_small true = omega arith
upper_small false = omega arith

length_small : (start words : ℕ) → words ≤ 16384 → export_length start words < 2 ^ 63
unfolding export_length
length_small start words h = omega (arith, upper_small (eqb (4 * words - min (4 * words) (65536 - start % 65536)) 0))

pub length_fits : (start words : ℕ) → Fits (length_of start words)
unfolding length_of
length_fits start words = by (is_window_out_of_form start words) refl
  where
    by : (t : Bool) → is_window_out_of_form start words ≡ t → Fits (cond t (Err WindowOutOfForm) (Ok (export_length start words)))
    by true e = tt
    by false e = length_small start words (good_window start words e)

pub export_fits : (start : ℕ) (words out : List ℕ) → Fits (exported_to start words out).answer
unfolding exported_to
export_fits start words out = by (is_window_out_of_form start (length words)) refl (ltb (length out) (length (export_of start words)))
  where
    by : (t : Bool) → is_window_out_of_form start (length words) ≡ t → (u : Bool)
        → Fits (cond {A = Export} t (record { answer = Err WindowOutOfForm; out = out }) (cond u (record { answer = Err OutputTooShort; out = out }) (record { answer = Ok (length (export_of start words)); out = export_of start words ++ drop (length (export_of start words)) out }))).answer
    by true e u = tt
    by false e true = tt
    by false e false = rw (export_length_lem start words (good_window start (length words) e)) (length_small start (length words) (good_window start (length words) e))

pub export_unique : ExportUnique
export_unique start words output r q after also p o = (p.result ∙ sym o.result, p.written ∙ sym o.written)

pub load_unique : LoadUnique
load_unique start words text r q after also p o = (p.result ∙ sym o.result, p.stored ∙ sym o.stored)

-- ---- by numbers

pub length_rule : LengthRule
unfolding length_of exported_number length_result
length_rule start count = record { out_of_form = λ f. simp f; told = λ f. simp f }

module _ (start : ℕ) (words output : List ℕ) where
  export_bad : is_window_out_of_form start (length words) ≡ true → (exported_number (exported_to start words output).answer ≡ negsuc 1) × ((exported_to start words output).out ≡ output)
  unfolding exported_to exported_number
  export_bad f = (simp f, simp f)

  module _ (f : is_window_out_of_form start (length words) ≡ false) where
    long : length (export_of start words) ≡ export_length start (length words)
    long = export_length_lem start words (good_window start (length words) f)

    export_short : length output < export_length start (length words) → (exported_number (exported_to start words output).answer ≡ negsuc 23) × ((exported_to start words output).out ≡ output)
    unfolding exported_to exported_number
    export_short h = let t = lt-ltb (length output) (length (export_of start words)) (rw long h) in (simp (f, t), simp (f, t))

    export_done : export_length start (length words) ≤ length output
        → (exported_number (exported_to start words output).answer ≡ pos (export_length start (length words))) × ((exported_to start words output).out ≡ export_of start words ++ drop (export_length start (length words)) output)
    unfolding exported_to exported_number
    export_done h = let t = le-ltb (length output) (length (export_of start words)) (rw long h) in (simp (f, t) (ap pos long), simp (f, t) (rw long))

pub export_rule : ExportRule
export_rule start words output r after p =
    record {
      out_of_form = λ f. let q = export_bad start words output f in (p.result ∙ q.0, p.written ∙ q.1);
      too_short = λ f h. let q = export_short start words output f h in (p.result ∙ q.0, p.written ∙ q.1);
      exported = λ f h.
          let q = export_done start words output f h in
          let e = p.written ∙ q.1 in
          (p.result ∙ q.0, e, rw e (simp (length-append, length-drop, long start words output f) (omega (arith, h))));
    }

no_minus : (code : ℕ) → minus_code code ≡ pos 0 → code ≡ 0
no_minus zero e = refl
no_minus (suc code) e = let w : ◌≡◌ {A = ℕ} 0 1 = cc in absurd (omega arith)

module _ (start : ℕ) (words text : List ℕ) where
  load_bad : is_window_out_of_form start (length words) ≡ true → (minus_code (load_of start words text).code ≡ negsuc 1) × ((load_of start words text).words ≡ words)
  unfolding code_of load_of
  load_bad f = (simp f, simp f)

  load_refused : is_window_out_of_form start (length words) ≡ false → (n : ℕ) → code_from (length text) start (length words) 0 text ≡ suc n → (minus_code (load_of start words text).code ≡ negsuc n) × ((load_of start words text).words ≡ words)
  unfolding code_of load_of
  load_refused f n c = let z = ne_eqb (suc n) 0 (λ e. omega arith) in (simp (f, c, z), simp (f, c, z))

  load_done : is_window_out_of_form start (length words) ≡ false → code_from (length text) start (length words) 0 text ≡ 0 → (minus_code (load_of start words text).code ≡ pos 0) × ((load_of start words text).words ≡ window_words (stored start (window_bytes words) (said text)))
  unfolding code_of load_of
  load_done f c = (simp (f, c), simp (f, c))

pub load_rule : LoadRule
load_rule start words text r after p =
    record {
      out_of_form = λ f. let q = load_bad start words text f in (p.result ∙ q.0, p.stored ∙ q.1);
      refused = λ f n c.
          let q = load_refused start words text f n c in
          let few = (text_code_is (length text) start (length words) 0 text (le_refl (length text))).few n c in
          (p.result ∙ q.0, few.0, few.1, p.stored ∙ q.1);
      loaded = λ f c. let q = load_done start words text f c in (p.result ∙ q.0, p.stored ∙ q.1);
      unsaid = λ i n. rw p.stored (unsaid_stays start i words text n);
      later = λ z i before s more e k l n. rw p.stored (later_holds start i words text before s more (no_minus (load_of start words text).code (sym p.result ∙ z)) e k l n);
    }
