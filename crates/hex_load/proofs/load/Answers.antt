use Rattle.std.proofs.Common.{◌≡◌, ◌∙◌, ℕ, List, false, ◌<◌, length, get_or, Result, Err, rules}
use borrow.Author.Tests.{ne_eqb}
use Rattle.machine.specs.declared.codes.Refusal.{Refusal}
use Rattle.machine.specs.declared.codes.Refusal.TheVariants.{WindowOutOfForm}
use Rattle.machine.specs.Window.{is_window_out_of_form}
use Rattle.records.specs.Window.{window_bytes}
use Rattle.records.specs.Load.{code_from, said, stored, code_of, load_of}
use Rattle.records.proofs.Bytes.{words_back}
use Rattle.hex_load.proofs.Window.{below_all}
use Rattle.hex_load.proofs.load.Goals as goal

pub returns-in_err-span : goal.returns-in_err-span
unfolding load_of code_of
returns-in_err-span c =
    let e = c.in_err-span.ensures in
    let f : ◌≡◌ {A = Result (Unit {0}) Refusal} c.from_residual.result (Err WindowOutOfForm) = rw (← e.1) (search rules) in
    rw (f, e.0)

-- a text that is refused, a text that is stored
module _ (start first many : ℕ) (words text : List ℕ) (good : is_window_out_of_form start (length words) ≡ false) (at : first ≡ start) (all : many ≡ length words) where
  load_refused : (code : ℕ) → code_from (length text) first many 0 text ≡ code → (code_from (length text) first many 0 text ≡ 0 → ⊥) → record { code = code; words = words } ≡ load_of start words text
  unfolding load_of code_of
  load_refused code is n =
      let e : code_from (length text) start (length words) 0 text ≡ code = rw (← at, ← all) is in
      rw (good, e, ne_eqb code 0 (λ z. n (is ∙ z)))

  load_done : (after : List ℕ) → code_from (length text) first many 0 text ≡ 0 → window_bytes after ≡ stored first (window_bytes words) (said text) → ((i : ℕ) → i < length after → get_or after i 0 < 4294967296)
      → record { code = 0; words = after } ≡ load_of start words text
  unfolding load_of code_of
  load_done after is s low =
      let e : code_from (length text) start (length words) 0 text ≡ 0 = rw (← at, ← all) is in
      let f : window_bytes after ≡ stored start (window_bytes words) (said text) = rw (← at) s in
      rw (good, e, ← f, words_back after (below_all 4294967296 after low))

pub returns-in_err-check_text : goal.returns-in_err-check_text
returns-in_err-check_text c =
    let s = c.in_ok-span.ensures in
    let e = c.in_err-check_text.ensures in
    let f : ◌≡◌ {A = Result (Unit {0}) Refusal} c.from_residual-in_err-check_text.result (Err c.in_err-check_text.field-0.0.refusal) = search rules in
    rw f (load_refused c.args.start c.in_ok-span.span.start c.in_ok-span.span.words c.args.memory.now c.args.text.now s.0 s.1 s.2 _ e.0 e.1)

pub returns : goal.returns
returns c =
    let s = c.in_ok-span.ensures in
    load_done c.args.start c.in_ok-span.span.start c.in_ok-span.span.words c.args.memory.now c.args.text.now s.0 s.1 s.2 _ c.in_ok-check_text.ensures.0 c.store_text.ensures (λ j h. (c.type_inv.memory j).fits)
