-- A text, and what is left of it behind some records.
use Rattle.std.proofs.Common.{◌≡◌, ap, ◌∙◌, arith, ℕ, List, true, cond, ◌<◌, ◌≤◌, ◌+◌, ◌-◌, length}
use lib.Dec.{eqb}
use Rattle.records.specs.Load.{kind_in, digits_in, rest_of, is_record, upper_after, record_code, code_from, refused_from, said, said_by, said_from, stored}
use Rattle.records.proofs.Steps.{less}
use Rattle.hex_load.proofs.Records.{length_none, code_says, rest_less, rest_fits, code_none, code_refused, code_ended, code_more, place_none, place_refused, place_ended, place_more, said_more, good_step}
use Rattle.hex_load.proofs.Window.{stored_append}

-- what is left has the code of the text, and its place
pub record Left (start words upper g : ℕ) (text rest : List ℕ) : Type 0 where
  pub most : length rest ≤ g
  pub within : length rest ≤ length text
  pub code : code_from (length text) start words 0 text ≡ code_from g start words upper rest
  pub place : refused_from (length text) start words 0 text ≡ length text - length rest + refused_from g start words upper rest

module _ (start words upper g : ℕ) (text rest : List ℕ) (l : Left start words upper g text rest) where
  pub left_none : length rest ≡ 0 → (code_from (length text) start words 0 text ≡ 19) × (refused_from (length text) start words 0 text ≡ length text)
  left_none e =
      let n = length_none rest e in
      (l.code ∙ rw n (code_none g start words upper), omega (arith, l.place, ap (refused_from g start words upper) n, place_none g start words upper))

  module _ (some : 0 < length rest) where
    pub left_refused : (record_code start words upper rest ≡ 0 → ⊥)
        → (code_from (length text) start words 0 text ≡ record_code start words upper rest) × (refused_from (length text) start words 0 text ≡ length text - length rest)
    left_refused e = (l.code ∙ code_refused start words upper rest some g l.most e, omega (arith, l.place, place_refused start words upper rest some g l.most e))

    module _ (z : record_code start words upper rest ≡ 0) where
      fits : length (rest_of rest) + (digits_in rest + 2) ≡ length rest
      fits = rest_fits rest (code_says start words upper rest z).0

      pub left_ended : kind_in rest ≡ 1
          → (code_from (length text) start words 0 text ≡ cond (eqb (length (rest_of rest)) 0) 0 19) × (refused_from (length text) start words 0 text ≡ length text - length (rest_of rest)) × (length (rest_of rest) ≤ length text)
      left_ended k =
          let w = l.within in
          (l.code ∙ code_ended start words upper rest some g l.most z k, omega (arith, l.place, place_ended start words upper rest some g l.most z k, fits), omega (arith, fits))

      pub left_more : (kind_in rest ≡ 1 → ⊥) → Left start words (upper_after upper rest) (less g) text (rest_of rest)
      left_more k =
          let w = l.within in
          record {
            most = rest_less rest g some l.most;
            within = omega (arith, fits);
            code = l.code ∙ code_more start words upper rest some g l.most z k;
            place = omega (arith, l.place, place_more start words upper rest some g l.most z k, fits);
          }

-- what is left says what is still to be stored
pub record ToStore (start words upper g : ℕ) (bytes : List ℕ) (text after rest : List ℕ) : Type 0 where
  pub most : length rest ≤ g
  pub says : stored start bytes (said text) ≡ stored start after (said_from g upper rest)
  pub good : 0 < length rest → code_from g start words upper rest ≡ 0

module _ (start words upper g : ℕ) (bytes text after rest : List ℕ) (l : ToStore start words upper g bytes text after rest) (some : 0 < length rest) where
  step : (record_code start words upper rest ≡ 0) × (0 < length (rest_of rest) → code_from (less g) start words (upper_after upper rest) (rest_of rest) ≡ 0)
  step = good_step start words upper rest some g l.most (l.good some)

  pub store_good : record_code start words upper rest ≡ 0
  store_good = step.0

  pub store_record_is : is_record rest ≡ true
  store_record_is = (code_says start words upper rest step.0).0

  pub store_more : (next : List ℕ) → next ≡ stored start after (said_by upper rest) → ToStore start words (upper_after upper rest) (less g) bytes text next (rest_of rest)
  store_more next e = record {
    most = rest_less rest g some l.most;
    says = l.says ∙ rw (said_more 0 0 upper rest some g l.most, stored_append, ← e);
    good = step.1;
  }
