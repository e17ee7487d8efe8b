use Rattle.std.specs.Int.{bytes_high_first}
use mathlib.Core.List.{[], ◌∷◌}
use native.Mathlib.Omega.{arith}
use lib.Seq.{sets}
use Rattle.records.specs.Window.{window_bytes}
use Rattle.hex_load.proofs.Window.{Part, whole_set, put_bytes}
use Rattle.hex_load.proofs.with_bytes.Goals as goal

pub returns-then-m-eq4 : goal.returns-then-m-eq4
returns-then-m-eq4 c =
    whole_set c.args.w c.swap_bytes.result c.swap_bytes.ensures c.args.old c.args.k c.args.m c.if-m-eq4.true (omega (arith, c.requires.0, c.if-m-eq4.true))

part : (c : goal.After-swap_bytes-2) → (let a = c.args in Part a.old c.swap_bytes-2.result a.k a.m (sets (window_bytes (a.old ∷ [])) a.k (bytes_high_first a.m a.w)))
part c = put_bytes c.args.w c.swap_bytes-2.result c.swap_bytes-2.ensures c.args.old c.args.k c.args.m (omega (arith, c.ranges.old)) c.requires.0 c.requires.1 c.if-m-eq4.false

pub overflow_mul-result-3 : goal.overflow_mul-result-3
overflow_mul-result-3 c = record { fits = (part c).fits }

pub overflow_add-result : goal.overflow_add-result
overflow_add-result c = record { fits = (part c).sum }

pub returns : goal.returns
returns c = (part c).are
