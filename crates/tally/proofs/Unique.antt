-- Two results that meet one contract are the same.
use mathlib.Core.Path.{sym, ◌∙◌, ap}
use Rattle.tally.specs.Tally.{Ended}
use Rattle.tally.specs.Unique.{TallyFeedUnique, TallyFinishUnique}

pub tally_feed_unique : TallyFeedUnique
tally_feed_unique t start memory piece r q memory' memory'' p o = p ∙ sym o

pub tally_finish_unique : TallyFinishUnique
tally_finish_unique t start memory r q memory' memory'' p o =
    let same = p ∙ sym o in (ap (λ (v : Ended). v.total) same, ap (λ (v : Ended). v.memory) same)
