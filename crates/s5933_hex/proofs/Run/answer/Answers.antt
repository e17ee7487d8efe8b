use Rattle.s5933_hex.proofs.Within.{feed_within, run_within}
use Rattle.s5933_hex.proofs.Run.answer.Goals as goal

pub log_in-requires : goal.log_in-requires
log_in-requires g c = feed_within c.feed-r.ensures

pub log_in-requires-2 : goal.log_in-requires-2
log_in-requires-2 g c = run_within c.finish-r.ensures
