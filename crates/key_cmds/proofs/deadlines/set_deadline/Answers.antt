-- Serves the clauses of set_deadline: what is asked of a deadline is met.
use Rattle.key_cmds.proofs.Due.{not_zero}
use Rattle.key_cmds.proofs.deadlines.set_deadline.Goals as goal

pub set_deadline-requires-clause-positive : goal.set_deadline-requires-clause-positive
set_deadline-requires-clause-positive g c = not_zero c.args.deadline c.requires.positive
