use Rattle.std.proofs.Common.{◌≡◌, ◌+◌, ◌==◌, count_by}
use Rattle.lines.specs.Lines.{lf}
use Rattle.lines.proofs.lf_count.Given as goal

-- blocks of 192, and the LFs of those so far and of the rest are those of the text
abbrev pub invariant-loop-block : goal.invariant-loop-block
invariant-loop-block l = record {
  size : l.block-iterator.size ≡ 192;
  counted : l.n + count_by (λ b. b == lf) l.block-iterator.rest.now ≡ count_by (λ b. b == lf) l.text;
}
