use Rattle.replica_feed.proofs.Kept.{rising}
use Rattle.replica_feed.proofs.backlog.Backlog.frame_from.Goals as goal

pub first_above-requires : goal.first_above-requires
first_above-requires c = record { rising = rising c.self.inside.first c.self.inside.units c.self.inside.end c.self.invariant.0 }
