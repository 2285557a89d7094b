-- Serves the clause of limits_are_kept.
use Rattle.hash_cmds.proofs.Kept.{row_keeps}
use Rattle.hash_cmds.proofs.laws.limits_are_kept.Goals as goal

pub returns : goal.returns
returns c = record { hash = λ cmd old words h k l. row_keeps cmd old words h k l }
