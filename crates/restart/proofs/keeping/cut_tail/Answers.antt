use Rattle.std.proofs.Common.{rules}
use Rattle.restart.proofs.KeptLogs.{before_nothing}
use Rattle.restart.proofs.keeping.cut_tail.Goals as goal

pub returns-clause-crash : goal.returns-clause-crash
returns-clause-crash g c = search (rules, before_nothing)
