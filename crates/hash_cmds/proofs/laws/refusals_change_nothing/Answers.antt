-- Serves clauses hash and other of refusals_change_nothing.
use Rattle.hash_cmds.specs.Rows.{row}
use Rattle.hash_cmds.proofs.Told.{on_hash, other_nothing, refused_nothing, row_told}
use Rattle.hash_cmds.proofs.laws.refusals_change_nothing.Goals as goal

pub returns-clause-hash : goal.returns-clause-hash
returns-clause-hash c cmd old words h = refused_nothing (on_hash old) _ (row cmd old words) (row_told cmd old words h)

pub returns-clause-other : goal.returns-clause-other
returns-clause-other c cmd words = other_nothing cmd words
