-- The commands on the keys, a row each.
use Rattle.std.specs.Prelude.{pos, negsuc, false, codes}
use Rattle.core_types.specs.CommandRow.{CommandRow, reading, writing}
use Rattle.string_cmds.specs.Commands as string_commands
use Rattle.list_cmds.specs.Commands as list_commands
use Rattle.hash_cmds.specs.Commands as hash_commands
use Rattle.key_cmds.specs.declared.command.Command.{Command}
use Rattle.key_cmds.specs.declared.command.Command.TheVariants as command
use Rattle.key_cmds.specs.declared.command.KeyCmd.{KeyCmd}
use Rattle.key_cmds.specs.declared.command.KeyCmd.TheVariants as key

-- the commands on keys of any kind: on several keys, on where a key stands, and on when it is due.
-- EXPIRE changes its key, but is no change in a log: there it is PEXPIREAT or DEL.
abbrev pub key_row : KeyCmd → CommandRow
key_row key.Del = writing (codes "DEL") (negsuc 1)
key_row key.Exists = reading (codes "EXISTS") (negsuc 1)
key_row key.Type = reading (codes "TYPE") (pos 2)
key_row key.Rename = writing (codes "RENAME") (pos 3)
key_row key.DbSize =
    record { name = codes "DBSIZE"; arity = pos 1; writes = false; key = 0 }
key_row key.MGet = reading (codes "MGET") (negsuc 1)
key_row key.MSet = writing (codes "MSET") (negsuc 2)
key_row key.Expire =
    record { name = codes "EXPIRE"; arity = pos 3; writes = false; key = 1 }
key_row key.PExpireAt = writing (codes "PEXPIREAT") (pos 3)
key_row key.Ttl = reading (codes "TTL") (pos 2)
key_row key.PTtl = reading (codes "PTTL") (pos 2)
key_row key.Persist = writing (codes "PERSIST") (pos 2)

-- every command on the keys
abbrev pub command_row : Command → CommandRow
command_row (command.Keys cmd) = key_row cmd
command_row (command.Str cmd) = string_commands.command_row cmd
command_row (command.List cmd) = list_commands.command_row cmd
command_row (command.Hash cmd) = hash_commands.command_row cmd
