-- Serves clause all of commands_are_listed.
use Rattle.std.proofs.Common.{refl}
use Rattle.list_cmds.specs.declared.command.ListCmd.TheVariants as command
use Rattle.list_cmds.proofs.laws.commands_are_listed.Goals as goal

pub returns-clause-all : goal.returns-clause-all
returns-clause-all c command.LPush = (0, refl)
returns-clause-all c command.RPush = (1, refl)
returns-clause-all c command.LPop = (2, refl)
returns-clause-all c command.RPop = (3, refl)
returns-clause-all c command.LLen = (4, refl)
returns-clause-all c command.LIndex = (5, refl)
returns-clause-all c command.LRange = (6, refl)
returns-clause-all c command.LSet = (7, refl)
returns-clause-all c command.LTrim = (8, refl)
returns-clause-all c command.LRem = (9, refl)
