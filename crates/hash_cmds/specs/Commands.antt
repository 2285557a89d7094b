-- The commands on a hash, a row each.
use Rattle.std.specs.Prelude.{pos, negsuc, codes}
use Rattle.core_types.specs.CommandRow.{CommandRow, reading, writing}
use Rattle.hash_cmds.specs.declared.command.HashCmd.{HashCmd}
use Rattle.hash_cmds.specs.declared.command.HashCmd.TheVariants as command

abbrev pub command_row : HashCmd → CommandRow
command_row command.HSet = writing (codes "HSET") (negsuc 3)
command_row command.HMSet = writing (codes "HMSET") (negsuc 3)
command_row command.HSetNx = writing (codes "HSETNX") (pos 4)
command_row command.HGet = reading (codes "HGET") (pos 3)
command_row command.HMGet = reading (codes "HMGET") (negsuc 2)
command_row command.HDel = writing (codes "HDEL") (negsuc 2)
command_row command.HLen = reading (codes "HLEN") (pos 2)
command_row command.HExists = reading (codes "HEXISTS") (pos 3)
command_row command.HStrLen = reading (codes "HSTRLEN") (pos 3)
command_row command.HKeys = reading (codes "HKEYS") (pos 2)
command_row command.HVals = reading (codes "HVALS") (pos 2)
command_row command.HGetAll = reading (codes "HGETALL") (pos 2)
command_row command.HIncrBy = writing (codes "HINCRBY") (pos 4)
