-- Serves the clauses of refusals_change_nothing.
use Rattle.key_cmds.specs.Rows.{does}
use Rattle.key_cmds.proofs.Remade.{read, remade}
use Rattle.key_cmds.proofs.SeveralRemade.{refused_nothing}
use Rattle.key_cmds.proofs.laws.refusals_change_nothing.Goals as goal

pub returns-clause-refused : goal.returns-clause-refused
returns-clause-refused g c type_name moment cmd keys words arity refused =
    refused_nothing type_name keys (does type_name moment cmd keys words) (remade type_name moment cmd keys words arity) refused

pub returns-clause-reading : goal.returns-clause-reading
returns-clause-reading g c type_name moment cmd keys words arity reads other = read type_name moment cmd keys words arity reads other
