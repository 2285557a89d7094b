-- Serves clause all of commands_are_listed.
use Rattle.std.proofs.Common.{refl}
use Rattle.hash_cmds.specs.declared.command.HashCmd.TheVariants as command
use Rattle.hash_cmds.proofs.laws.commands_are_listed.Goals as goal

pub returns-clause-all : goal.returns-clause-all
returns-clause-all c command.HSet = (0, refl)
returns-clause-all c command.HMSet = (1, refl)
returns-clause-all c command.HSetNx = (2, refl)
returns-clause-all c command.HGet = (3, refl)
returns-clause-all c command.HMGet = (4, refl)
returns-clause-all c command.HDel = (5, refl)
returns-clause-all c command.HLen = (6, refl)
returns-clause-all c command.HExists = (7, refl)
returns-clause-all c command.HStrLen = (8, refl)
returns-clause-all c command.HKeys = (9, refl)
returns-clause-all c command.HVals = (10, refl)
returns-clause-all c command.HGetAll = (11, refl)
returns-clause-all c command.HIncrBy = (12, refl)
