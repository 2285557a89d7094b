-- Serves clauses told and joined of replies_are_told.
use Rattle.host_core.proofs.Steps.{stay_joined, tells}
use Rattle.host_core.proofs.laws.replies_are_told.Goals as goal

pub returns-clause-told : goal.returns-clause-told
returns-clause-told c state event joined = tells state event joined

pub returns-clause-joined : goal.returns-clause-joined
returns-clause-joined c state event joined = stay_joined state event joined
