use Rattle.replica_feed.proofs.Following.{follows_on, follows_all, fresh_follows}
use Rattle.replica_feed.proofs.laws.replica_follows.Goals as goal

pub returns-clause-apply : goal.returns-clause-apply
returns-clause-apply c s = follows_on _ _ _

pub returns-clause-all : goal.returns-clause-all
returns-clause-all c s = λ r fresh last frames each at none all.
    follows_all c.R.Replayer.keys c.R.Replayer.meaning c.R.FrontReplayer.saved r fresh last frames each
    (fresh_follows c.R.Replayer.keys c.R.Replayer.meaning c.R.FrontReplayer.saved r fresh at none) all
