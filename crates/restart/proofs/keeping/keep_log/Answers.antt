use Rattle.std.proofs.Common.{rules}
use Rattle.restart.proofs.KeptLogs.{after_nothing, before_nothing}
use Rattle.restart.proofs.keeping.keep_log.Goals as goal

pub returns-in_err-cut_tail-clause-crash : goal.returns-in_err-cut_tail-clause-crash
returns-in_err-cut_tail-clause-crash g c = search (rules, after_nothing)

pub returns-clause-crash : goal.returns-clause-crash
returns-clause-crash g c = search (rules, after_nothing, before_nothing)
