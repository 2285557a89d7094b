-- Serves the clauses of effects_remake_changes.
use Rattle.string_cmds.proofs.Told.{other_told, row_told}
use Rattle.string_cmds.proofs.laws.effects_remake_changes.Goals as goal

pub returns-clause-string : goal.returns-clause-string
returns-clause-string c cmd old words h = row_told cmd old words h

pub returns-clause-other : goal.returns-clause-other
returns-clause-other c cmd words h = other_told cmd words
