-- Serves clauses found, listed and count of commands_are_known.
use Rattle.std.proofs.Common.{refl}
use Rattle.host_core.specs.Builtins.{known_commands}
use Rattle.host_core.proofs.BuiltinNames.{found}
use Rattle.host_core.proofs.laws.commands_are_known.Goals as goal

pub returns-clause-found : goal.returns-clause-found
returns-clause-found c cmd = found cmd

pub returns-clause-listed : goal.returns-clause-listed
returns-clause-listed c = refl

pub returns-clause-count : goal.returns-clause-count
unfolding known_commands
returns-clause-count c = refl
