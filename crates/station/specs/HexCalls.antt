-- The C calls for windows as HEX text (document 02, Ask 7): what they return, and what they leave in the output and in the window.
use Rattle.std.specs.Prelude.{ℕ, suc, ◌*◌, ◌^◌, ◌<◌, ◌≤◌, ◌≡◌, true, false, List, ◌∷◌, ◌++◌, ℤ, pos, negsuc, neg_ℤ, length, get_or, drop, Result, Ok, Err}
use Rattle.machine.specs.Window.{is_window_out_of_form}
use Rattle.records.specs.Window.{window_bytes, window_words, byte_place}
use Rattle.records.specs.Export.{export_of, export_length}
use Rattle.records.specs.Load.{code_from, Said, said, stored, load_of}
use Rattle.records.specs.Promises.{NoneAt}
use Rattle.machine.specs.Refusals.{refusal_number}
use Rattle.machine.specs.declared.codes.Refusal.{Refusal}
use Rattle.hex_export.specs.Results.{length_of, exported_to}

-- a code with a minus, 0 for 0: -2 is `negsuc 1`
abbrev pub minus_code : ℕ → ℤ
minus_code code = neg_ℤ (pos code)

-- the number of each case of an export's answer
unfoldable pub exported_number : Result ℕ Refusal → ℤ
exported_number (Ok n) = pos n
exported_number (Err r) = minus_code (refusal_number r)

-- it is a number of 64 bits with a sign
abbrev pub Fits : Result ℕ Refusal → Type 0
Fits (Ok n) = n < 2 ^ 63
Fits (Err r) = Unit

unfoldable pub length_result : ℕ → ℕ → ℤ
length_result start count = exported_number (length_of start count)

-- what `s5933_hex_export` promises of its result and of the output at exit
pub record ExportPromised (start : ℕ) (words output : List ℕ) (r : ℤ) (after : List ℕ) : Type 0 where
  pub result : r ≡ exported_number (exported_to start words output).answer
  pub written : after ≡ (exported_to start words output).out

-- what `s5933_hex_load` promises of its result and of the window at exit
pub record LoadPromised (start : ℕ) (words text : List ℕ) (r : ℤ) (after : List ℕ) : Type 0 where
  pub result : r ≡ minus_code (load_of start words text).code
  pub stored : after ≡ (load_of start words text).words

-- `export_unique`, `load_unique`: two results that meet one of these are the same, and so is what they leave
abbrev pub ExportUnique : Type 0
ExportUnique = (start : ℕ) (words output : List ℕ) (r q : ℤ) (after also : List ℕ) → ExportPromised start words output r after → ExportPromised start words output q also → (r ≡ q) × (after ≡ also)

abbrev pub LoadUnique : Type 0
LoadUnique = (start : ℕ) (words text : List ℕ) (r q : ℤ) (after also : List ℕ) → LoadPromised start words text r after → LoadPromised start words text q also → (r ≡ q) × (after ≡ also)

-- What the calls say in the documents' numbers: -2 is `negsuc 1`, -16 to -19 are `negsuc 15` to `negsuc 18`, -24 is `negsuc 23`.

pub record LengthByNumbers (start count : ℕ) : Type 0 where
  -- a window out of form: -2; any other: how long its text is
  pub out_of_form : is_window_out_of_form start count ≡ true → length_result start count ≡ negsuc 1
  pub told : is_window_out_of_form start count ≡ false → length_result start count ≡ pos (export_length start count)

pub record ExportByNumbers (start : ℕ) (words output : List ℕ) (r : ℤ) (after : List ℕ) : Type 0 where
  -- a window out of form: -2, and the output is as it was
  pub out_of_form : is_window_out_of_form start (length words) ≡ true → (r ≡ negsuc 1) × (after ≡ output)
  -- one in form, with an output that is shorter than the text: -24, and the output is as it was
  pub too_short : is_window_out_of_form start (length words) ≡ false → length output < export_length start (length words) → (r ≡ negsuc 23) × (after ≡ output)
  -- else how many bytes the text has: the output begins with it, every byte past it is as it was, and there are no more and no fewer
  pub exported :
      is_window_out_of_form start (length words) ≡ false → export_length start (length words) ≤ length output
      → (r ≡ pos (export_length start (length words))) × (after ≡ export_of start words ++ drop (export_length start (length words)) output) × (length after ≡ length output)

pub record LoadByNumbers (start : ℕ) (words text : List ℕ) (r : ℤ) (after : List ℕ) : Type 0 where
  -- a window out of form: -2, and the window is as it was
  pub out_of_form : is_window_out_of_form start (length words) ≡ true → (r ≡ negsuc 1) × (after ≡ words)
  -- one in form, with a text to which a code applies: that code with a minus, -16 to -19, and the window is as it was
  pub refused :
      is_window_out_of_form start (length words) ≡ false → (n : ℕ) → code_from (length text) start (length words) 0 text ≡ suc n
      → (r ≡ negsuc n) × (15 ≤ n) × (n ≤ 18) × (after ≡ words)
  -- else 0, and the window has what the text says
  pub loaded :
      is_window_out_of_form start (length words) ≡ false → code_from (length text) start (length words) 0 text ≡ 0
      → (r ≡ pos 0) × (after ≡ window_words (stored start (window_bytes words) (said text)))
  -- a byte that is in no record stays, whatever is returned
  pub unsaid : (p : ℕ) → NoneAt start p (said text) → get_or (window_bytes after) p 0 ≡ get_or (window_bytes words) p 0
  -- where 0 is returned, of what records say of one byte the last holds
  pub later :
      r ≡ pos 0 → (p : ℕ) (before : List Said) (s : Said) (more : List Said) → said text ≡ before ++ (s ∷ more) → p ≡ byte_place start s.address → p < 4 * length words → NoneAt start p more
      → get_or (window_bytes after) p 0 ≡ s.byte

-- `length_rule`, `export_rule`, `load_rule`: whatever window, output and text are, that is what the calls promise
abbrev pub LengthRule : Type 0
LengthRule = (start count : ℕ) → LengthByNumbers start count

abbrev pub ExportRule : Type 0
ExportRule = (start : ℕ) (words output : List ℕ) (r : ℤ) (after : List ℕ) → ExportPromised start words output r after → ExportByNumbers start words output r after

abbrev pub LoadRule : Type 0
LoadRule = (start : ℕ) (words text : List ℕ) (r : ℤ) (after : List ℕ) → LoadPromised start words text r after → LoadByNumbers start words text r after
