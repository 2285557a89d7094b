-- Serves the clause of limits_are_kept.
use Rattle.list_cmds.proofs.Kept.{row_keeps}
use Rattle.list_cmds.proofs.laws.limits_are_kept.Goals as goal

pub returns : goal.returns
returns c = record { list = λ cmd old words arity h k. row_keeps cmd old words arity h k }
