use Rattle.std.proofs.Common.{rules}
use Rattle.restart.proofs.KeptLogs.{synced_ok, sync_adds_nothing}
use Rattle.restart.proofs.keeping.sync_log.Goals as goal

pub returns-clause-synced : goal.returns-clause-synced
returns-clause-synced g c = search (rules, synced_ok)

pub returns-clause-crash : goal.returns-clause-crash
returns-clause-crash g c = search (rules, sync_adds_nothing)
