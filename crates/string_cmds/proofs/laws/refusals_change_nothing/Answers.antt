-- Serves clauses string and other of refusals_change_nothing.
use Rattle.string_cmds.specs.Rows.{row}
use Rattle.string_cmds.proofs.Told.{on_string, refused_nothing, row_told}
use Rattle.string_cmds.proofs.laws.refusals_change_nothing.Goals as goal

pub returns-clause-string : goal.returns-clause-string
returns-clause-string c cmd old words h = refused_nothing (on_string old) _ (row cmd old words) (row_told cmd old words h)
