use Rattle.replica_feed.proofs.Backlogs.{pushed_is, since_stands}
use Rattle.replica_feed.proofs.laws.backlog_stands.Goals as goal

pub returns-clause-push : goal.returns-clause-push
returns-clause-push c s = pushed_is

pub returns-clause-since : goal.returns-clause-since
returns-clause-since c s = since_stands _ _
