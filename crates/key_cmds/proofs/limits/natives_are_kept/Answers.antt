-- Serves the clauses of natives_are_kept.
use Rattle.key_cmds.proofs.LimitsOfNatives.{command_keeps, first_expired_keeps}
use Rattle.key_cmds.proofs.limits.natives_are_kept.Goals as goal

pub returns-clause-commands : goal.returns-clause-commands
returns-clause-commands g c type_name moment cmd keys words = command_keeps type_name moment cmd keys words

pub returns-clause-expiry : goal.returns-clause-expiry
returns-clause-expiry g c moment keys = first_expired_keeps moment keys
