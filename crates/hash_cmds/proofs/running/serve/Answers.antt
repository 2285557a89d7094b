-- Serves clause does of serve.
use Rattle.std.proofs.Common.{Some}
use Rattle.hash_cmds.proofs.running.serve.Goals as goal

pub returns-in-HExists-clause-does : goal.returns-in-HExists-clause-does
returns-in-HExists-clause-does c = rw c.in-HExists.is (c.exists.ensures (Some c.args.hash.now))

pub returns-in-HStrLen-clause-does : goal.returns-in-HStrLen-clause-does
returns-in-HStrLen-clause-does c = rw c.in-HStrLen.is (c.value_length.ensures (Some c.args.hash.now))

pub returns-in-HLen-clause-does : goal.returns-in-HLen-clause-does
returns-in-HLen-clause-does c = rw c.in-HLen.is (c.count_fields.ensures (Some c.args.hash.now))
