-- Serves clause all of commands_are_listed.
use Rattle.std.proofs.Common.{refl}
use Rattle.string_cmds.specs.declared.command.StringCmd.TheVariants as command
use Rattle.string_cmds.proofs.laws.commands_are_listed.Goals as goal

pub returns-clause-all : goal.returns-clause-all
returns-clause-all c command.Get = (0, refl)
returns-clause-all c command.Set = (1, refl)
returns-clause-all c command.SetNx = (2, refl)
returns-clause-all c command.GetSet = (3, refl)
returns-clause-all c command.Append = (4, refl)
returns-clause-all c command.StrLen = (5, refl)
returns-clause-all c command.GetRange = (6, refl)
returns-clause-all c command.SetRange = (7, refl)
returns-clause-all c command.Incr = (8, refl)
returns-clause-all c command.Decr = (9, refl)
returns-clause-all c command.IncrBy = (10, refl)
returns-clause-all c command.DecrBy = (11, refl)
