use mathlib.Core.Path.{◌∙◌, ap}
use native.Mathlib.Omega.{arith}
use Rattle.records.specs.Load.{Load}
use Rattle.station.specs.HexCalls.{minus_code}
use Rattle.station.proofs.HexCalls.{minus_fits, minus_back}
use Rattle.station.proofs.s5933_hex_load.Goals as goal

pub overflow_sub-result : goal.overflow_sub-result
overflow_sub-result c = minus_fits c.code.result (omega arith)

pub returns : goal.returns
returns c =
    record {
      result = minus_back c.code.result (omega arith) ∙ ap minus_code c.code.ensures ∙ ap (λ (r : Load). minus_code r.code) c.load.ensures;
      stored = ap (λ (r : Load). r.words) c.load.ensures;
    }
