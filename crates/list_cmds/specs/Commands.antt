-- The commands on a list, a row each.
use Rattle.std.specs.Prelude.{pos, negsuc, codes}
use Rattle.core_types.specs.CommandRow.{CommandRow, reading, writing}
use Rattle.list_cmds.specs.declared.command.ListCmd.{ListCmd}
use Rattle.list_cmds.specs.declared.command.ListCmd.TheVariants as command

abbrev pub command_row : ListCmd → CommandRow
command_row command.LPush = writing (codes "LPUSH") (negsuc 2)
command_row command.RPush = writing (codes "RPUSH") (negsuc 2)
command_row command.LPop = writing (codes "LPOP") (pos 2)
command_row command.RPop = writing (codes "RPOP") (pos 2)
command_row command.LLen = reading (codes "LLEN") (pos 2)
command_row command.LIndex = reading (codes "LINDEX") (pos 3)
command_row command.LRange = reading (codes "LRANGE") (pos 4)
command_row command.LSet = writing (codes "LSET") (pos 4)
command_row command.LTrim = writing (codes "LTRIM") (pos 4)
command_row command.LRem = writing (codes "LREM") (pos 4)
