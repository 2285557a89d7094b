-- Serves the clauses of limits_are_kept.
use Rattle.key_cmds.proofs.LimitsOfKeys.{command_kept}
use Rattle.key_cmds.proofs.LimitsOfDue.{first_expired_kept}
use Rattle.key_cmds.proofs.limits.limits_are_kept.Goals as goal

pub returns-clause-commands : goal.returns-clause-commands
returns-clause-commands g c allowed type_name moment cmd keys words arity is h = command_kept allowed type_name moment cmd keys words arity is h

pub returns-clause-expiry : goal.returns-clause-expiry
returns-clause-expiry g c allowed moment keys is = first_expired_kept allowed moment keys is
