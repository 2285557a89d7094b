-- Serves the clause of effects_remake_changes.
use Rattle.key_cmds.proofs.Remade.{remade}
use Rattle.key_cmds.proofs.laws.effects_remake_changes.Goals as goal

pub returns : goal.returns
returns g c = record { commands = λ type_name moment cmd keys words arity. remade type_name moment cmd keys words arity }
