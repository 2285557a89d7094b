-- Serves the clauses of limits_are_kept.
use Rattle.string_cmds.proofs.Kept.{other_keeps, row_keeps}
use Rattle.string_cmds.proofs.laws.limits_are_kept.Goals as goal

pub returns-clause-string : goal.returns-clause-string
returns-clause-string c cmd old words h k = row_keeps cmd old words h k

pub returns-clause-other : goal.returns-clause-other
returns-clause-other c cmd words k = other_keeps cmd words k
