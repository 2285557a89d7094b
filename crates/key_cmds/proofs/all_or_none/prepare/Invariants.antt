-- Serves the clauses of prepare: the pairs so far have been looked at, and those that are left have
-- not.
use Rattle.key_cmds.proofs.AllOrNone.{AreLookedAtBut}
use Rattle.key_cmds.proofs.all_or_none.prepare.Given as goal

abbrev pub invariant-loop-key : goal.invariant-loop-key
invariant-loop-key g l = AreLookedAtBut l.key-iterator l.fn.pairs l.begun l.fn.keys l.keys
