-- Reading the records of an export, one after the other: any reading that passes an upper record on, that takes a data record's
-- bytes off the front and that is right at the end record is right of the whole.
use Prim.Native.Nat.{ℕ, zero, suc, ◌+◌, ◌<◌, ◌≤◌}
use mathlib.Core.Path.{◌≡◌, refl, ◌∙◌}
use mathlib.Core.List.{List, [], ◌∷◌, ◌++◌}
use native.Mathlib.Omega.{arith}
use native.Mathlib.Decide.{ℕ_discrete}
use lib.ListN.{length, take, drop, length-drop}
use lib.Seq.{length-take-le}
use borrow.Author.Tests.{eq-eqb, ne_eqb}
use Rattle.eight.specs.Packed.{Each}
use Rattle.records.specs.Record.{Record, text_of, texts}
use Rattle.records.specs.Export.{upper_of, upper_record, data_record, end_record, changed, cut, records_from}
use Rattle.records.specs.Load.{is_kind}
use Rattle.records.proofs.Bytes.{below_take, below_drop}
use Rattle.records.proofs.Read.{Good}
use Rattle.records.proofs.Steps.{less, fuel-left}

pub cut_is : (a left : ℕ) → 0 < left → (0 < cut a left) × (cut a left ≤ 16) × (cut a left ≤ left)
unfolding cut
cut_is a left h = (omega arith, omega arith, omega arith)

pub good_upper : (u : ℕ) → u < 65536 → Good (upper_record u)
unfolding is_kind
good_upper u h = record { few = omega arith; low = omega arith; typed = refl; named = omega arith; whole = (omega arith, (omega arith, tt)) }

pub good_end : Good end_record
unfolding is_kind
good_end = record { few = omega arith; low = omega arith; typed = refl; named = omega arith; whole = tt }

pub good_data : (a : ℕ) (bs : List ℕ) → length bs < 256 → Each 256 bs → Good (data_record a bs)
unfolding is_kind
good_data a bs h k = record { few = h; low = omega arith; typed = refl; named = omega arith; whole = k }

-- what is left after records
abbrev pub end_text : List ℕ
end_text = texts (end_record ∷ [])

module _ {X : Type 0} (F : ℕ → ℕ → List ℕ → X) (G : ℕ → List ℕ → X) (Ok : ℕ → List ℕ → Type 0)
    (ends : (g upper a : ℕ) → length end_text ≤ g → F g upper end_text ≡ G a [])
    (uppers : (g upper u : ℕ) (rest : List ℕ) → u < 65536 → length (text_of (upper_record u) ++ rest) ≤ g → F g upper (text_of (upper_record u) ++ rest) ≡ F (less g) u rest)
    (datas : (g a n : ℕ) (bs rest : List ℕ) → n ≤ 16 → n ≤ length bs → Each 256 bs → Ok a bs → length (text_of (data_record a (take n bs)) ++ rest) ≤ g
    → F (less g) (upper_of a) rest ≡ G (a + n) (drop n bs) → F g (upper_of a) (text_of (data_record a (take n bs)) ++ rest) ≡ G a bs)
    (later : (a n : ℕ) (bs : List ℕ) → n ≤ length bs → Ok a bs → Ok (a + n) (drop n bs)) where
  -- a data record, after the upper record that stands before it if the upper bits change
  turn : (g upper a n : ℕ) (bs : List ℕ) (more : List Record) → n ≤ 16 → n ≤ length bs → Each 256 bs → Ok a bs
      → ((g' : ℕ) → length (texts (more ++ (end_record ∷ []))) ≤ g' → F g' (upper_of a) (texts (more ++ (end_record ∷ []))) ≡ G (a + n) (drop n bs))
      → Dec (upper_of a ≡ upper)
      → length (texts ((changed upper (upper_of a) ++ (data_record a (take n bs) ∷ more)) ++ (end_record ∷ []))) ≤ g
      → F g upper (texts ((changed upper (upper_of a) ++ (data_record a (take n bs) ∷ more)) ++ (end_record ∷ []))) ≡ G a bs
  unfolding changed texts
  turn g upper a n bs more small within low ok ih (yes e) h =
      let good = good_data a (take n bs) (rw (length-take-le n bs within) (omega arith)) (below_take 256 n bs low) in
      let k = rw (eq-eqb (upper_of a) upper e) at h in
      rw (eq-eqb (upper_of a) upper e, ← e) (datas g a n bs (texts (more ++ (end_record ∷ []))) small within low ok k (ih (less g) (fuel-left (data_record a (take n bs)) _ good g k)))
  turn g upper a n bs more small within low ok ih (no e) h =
      let good = good_data a (take n bs) (rw (length-take-le n bs within) (omega arith)) (below_take 256 n bs low) in
      let k = rw (ne_eqb (upper_of a) upper e) at h in
      let u : upper_of a < 65536 = omega arith in
      let k' = fuel-left (upper_record (upper_of a)) _ (good_upper (upper_of a) u) g k in
      rw (ne_eqb (upper_of a) upper e)
      (uppers g upper (upper_of a) _ u k
      ∙ datas (less g) a n bs (texts (more ++ (end_record ∷ []))) small within low ok k' (ih (less (less g)) (fuel-left (data_record a (take n bs)) _ good (less g) k')))

  pub reads_all : (most g upper a : ℕ) (bs : List ℕ) → length bs ≤ most → Each 256 bs → Ok a bs
      → length (texts (records_from most upper a bs ++ (end_record ∷ []))) ≤ g
      → F g upper (texts (records_from most upper a bs ++ (end_record ∷ []))) ≡ G a bs
  unfolding records_from
  reads_all zero g upper a [] few low ok h = ends g upper a h
  reads_all zero g upper a (b ∷ bs) few low ok h = absurd (omega arith)
  reads_all (suc most) g upper a [] few low ok h = ends g upper a h
  reads_all (suc most) g upper a (b ∷ bs) few low ok h =
      let n = cut a (length (b ∷ bs)) in
      let c = cut_is a (length (b ∷ bs)) (omega arith) in
      turn g upper a n (b ∷ bs) (records_from most (upper_of a) (a + n) (drop n (b ∷ bs))) c.1 c.2 low ok
      (λ g' k. reads_all most g' (upper_of a) (a + n) (drop n (b ∷ bs)) (rw length-drop (omega arith)) (below_drop 256 n (b ∷ bs) low) (later a n (b ∷ bs) c.2 ok) k)
      (ℕ_discrete (upper_of a) upper) h
