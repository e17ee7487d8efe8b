-- Two results that meet one contract are the same.
use Rattle.std.proofs.Common.{sym, ap, ◌∙◌}
use Rattle.frame_log.specs.Results.{TextRun, Piece}
use Rattle.frame_log.specs.Unique.{RunUnique, FeedUnique, LogCountUnique, LogCountEndUnique}

pub run_unique : RunUnique
run_unique set c start memory text out r q memory' memory'' out' out'' p o =
    let same = p.ran ∙ sym o.ran in
    record {
      state = ap (λ (v : TextRun). v.state) same;
      log = ap (λ (v : TextRun). v.log) same;
      stored = ap (λ (v : TextRun). v.memory) same;
      written = ap (λ (v : TextRun). v.out) same;
      refused = λ e. p.refused e ∙ sym (o.refused e);
    }

pub feed_unique : FeedUnique
feed_unique set s start memory piece out r q memory' memory'' out' out'' p o =
    let same = p.fed ∙ sym o.fed in
    record {
      state = ap (λ (v : Piece). v.state) same;
      begun = ap (λ (v : Piece). v.begun) same;
      log = ap (λ (v : Piece). v.log) same;
      stored = ap (λ (v : Piece). v.memory) same;
      written = ap (λ (v : Piece). v.out) same;
      refused = λ e. p.refused e ∙ sym (o.refused e);
    }

pub log_count_unique : LogCountUnique
log_count_unique s start memory piece writes reads r q memory' memory'' p o = p ∙ sym o

pub log_count_end_unique : LogCountEndUnique
log_count_end_unique s start memory writes reads r q memory' memory'' p o = p ∙ sym o
