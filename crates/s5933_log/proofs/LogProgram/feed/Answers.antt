use Rattle.input.proofs.Within.{feed_within}
use Rattle.s5933_log.proofs.LogProgram.feed.Goals as goal

pub write-requires : goal.write-requires
write-requires g c = feed_within c.feed-r.ensures
