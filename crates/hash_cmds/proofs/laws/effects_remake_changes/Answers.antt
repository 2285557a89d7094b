-- Serves the clause of effects_remake_changes.
use Rattle.hash_cmds.proofs.Told.{row_told}
use Rattle.hash_cmds.proofs.laws.effects_remake_changes.Goals as goal

pub returns : goal.returns
returns c = record { hash = λ cmd old words h. row_told cmd old words h }
