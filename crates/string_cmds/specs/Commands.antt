-- The commands on a string, a row each.
use Rattle.std.specs.Prelude.{pos, negsuc, codes}
use Rattle.core_types.specs.CommandRow.{CommandRow, reading, writing}
use Rattle.string_cmds.specs.declared.command.StringCmd.{StringCmd}
use Rattle.string_cmds.specs.declared.command.StringCmd.TheVariants as command

abbrev pub command_row : StringCmd → CommandRow
command_row command.Get = reading (codes "GET") (pos 2)
command_row command.Set = writing (codes "SET") (negsuc 2)
command_row command.SetNx = writing (codes "SETNX") (pos 3)
command_row command.GetSet = writing (codes "GETSET") (pos 3)
command_row command.Append = writing (codes "APPEND") (pos 3)
command_row command.StrLen = reading (codes "STRLEN") (pos 2)
command_row command.GetRange = reading (codes "GETRANGE") (pos 4)
command_row command.SetRange = writing (codes "SETRANGE") (pos 4)
command_row command.Incr = writing (codes "INCR") (pos 2)
command_row command.Decr = writing (codes "DECR") (pos 2)
command_row command.IncrBy = writing (codes "INCRBY") (pos 3)
command_row command.DecrBy = writing (codes "DECRBY") (pos 3)
