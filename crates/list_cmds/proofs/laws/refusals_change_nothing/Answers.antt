-- Serves clauses list and other of refusals_change_nothing.
use Rattle.list_cmds.specs.Rows.{row}
use Rattle.list_cmds.proofs.Told.{on_list, other_told, refused_nothing, row_told}
use Rattle.list_cmds.proofs.laws.refusals_change_nothing.Goals as goal

pub returns-clause-list : goal.returns-clause-list
returns-clause-list c cmd old words h = refused_nothing (on_list old) _ (row cmd old words) (row_told cmd old words h)

pub returns-clause-other : goal.returns-clause-other
returns-clause-other c cmd words = other_told cmd words
