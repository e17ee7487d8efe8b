use Rattle.std.proofs.Common.{◌≡◌, sym, ap, ◌∙◌, arith, ◌⊎◌, inl, inr}
use borrow.Author.Tests.{eq-eqb, ne_eqb}
use Rattle.records.specs.Load.{upper_after, kind_in}
use Rattle.hex_load.specs.declared.Kind.{Kind}
use Rattle.hex_load.specs.declared.Kind.TheVariants.{Data, End}
use Rattle.hex_load.specs.Reads.{kind_number}
use Rattle.hex_load.proofs.Records.{record_fits, upper_count, upper_read, digits_from}
use Rattle.hex_load.proofs.upper_after.Goals as goal

pub digits_at-requires : goal.digits_at-requires
digits_at-requires c =
    let t = c.args.text.now in
    let k : kind_in t ≡ 4 = sym c.requires.1.kinds ∙ ap kind_number c.in-Upper.is in
    (omega (arith, record_fits t c.requires.0, upper_count t c.requires.0 k), digits_from t c.requires.0 4 8 (omega (arith, upper_count t c.requires.0 k)))

pub returns-in-Upper : goal.returns-in-Upper
unfolding upper_after
returns-in-Upper c =
    let t = c.args.text.now in
    let k : kind_in t ≡ 4 = sym c.requires.1.kinds ∙ ap kind_number c.in-Upper.is in
    rw (eq-eqb (kind_in t) 4 k, c.digits_at.ensures) (upper_read t c.requires.0 k)

other : (k : Kind) → (k ≡ Data) ⊎ (k ≡ End) → kind_number k ≡ 4 → ⊥
other k (inl e) q = let f : kind_number Data ≡ 4 = sym (ap kind_number e) ∙ q in absurd (omega arith)
other k (inr e) q = let f : kind_number End ≡ 4 = sym (ap kind_number e) ∙ q in absurd (omega arith)

pub returns-in-Data : goal.returns-in-Data
unfolding upper_after
returns-in-Data c = rw (ne_eqb (kind_in c.args.text.now) 4 (λ e. other c.args.head.kind c.in-Data.is (c.requires.1.kinds ∙ e)))
