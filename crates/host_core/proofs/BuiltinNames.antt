-- Serves the clauses of `commands_are_known`.
use Rattle.std.proofs.Common.{◌≡◌, refl, Some}
use Rattle.key_cmds.specs.declared.command.Command.TheVariants as command
use Rattle.key_cmds.specs.declared.command.KeyCmd.TheVariants as key
use Rattle.string_cmds.specs.declared.command.StringCmd.TheVariants as string
use Rattle.list_cmds.specs.declared.command.ListCmd.TheVariants as list
use Rattle.hash_cmds.specs.declared.command.HashCmd.TheVariants as hash
use Rattle.host_core.specs.declared.builtin.Builtin.{Builtin}
use Rattle.host_core.specs.declared.builtin.Builtin.TheVariants as builtin
use Rattle.host_core.specs.declared.connection.ConnectionCmd.TheVariants as connection
use Rattle.host_core.specs.Builtins.{builtin_named, builtin_row}

pub found : (cmd : Builtin) → builtin_named (builtin_row cmd).name ≡ Some cmd
unfolding builtin_named
found (builtin.Connection connection.Ping) = refl
found (builtin.Connection connection.Echo) = refl
found (builtin.Connection connection.Select) = refl
found (builtin.Connection connection.Quit) = refl
found (builtin.Connection connection.Command) = refl
found (builtin.Keys (command.Keys key.Del)) = refl
found (builtin.Keys (command.Keys key.Exists)) = refl
found (builtin.Keys (command.Keys key.Type)) = refl
found (builtin.Keys (command.Keys key.Rename)) = refl
found (builtin.Keys (command.Keys key.DbSize)) = refl
found (builtin.Keys (command.Keys key.MGet)) = refl
found (builtin.Keys (command.Keys key.MSet)) = refl
found (builtin.Keys (command.Keys key.Expire)) = refl
found (builtin.Keys (command.Keys key.PExpireAt)) = refl
found (builtin.Keys (command.Keys key.Ttl)) = refl
found (builtin.Keys (command.Keys key.PTtl)) = refl
found (builtin.Keys (command.Keys key.Persist)) = refl
found (builtin.Keys (command.Str string.Get)) = refl
found (builtin.Keys (command.Str string.Set)) = refl
found (builtin.Keys (command.Str string.SetNx)) = refl
found (builtin.Keys (command.Str string.GetSet)) = refl
found (builtin.Keys (command.Str string.Append)) = refl
found (builtin.Keys (command.Str string.StrLen)) = refl
found (builtin.Keys (command.Str string.GetRange)) = refl
found (builtin.Keys (command.Str string.SetRange)) = refl
found (builtin.Keys (command.Str string.Incr)) = refl
found (builtin.Keys (command.Str string.Decr)) = refl
found (builtin.Keys (command.Str string.IncrBy)) = refl
found (builtin.Keys (command.Str string.DecrBy)) = refl
found (builtin.Keys (command.List list.LPush)) = refl
found (builtin.Keys (command.List list.RPush)) = refl
found (builtin.Keys (command.List list.LPop)) = refl
found (builtin.Keys (command.List list.RPop)) = refl
found (builtin.Keys (command.List list.LLen)) = refl
found (builtin.Keys (command.List list.LIndex)) = refl
found (builtin.Keys (command.List list.LRange)) = refl
found (builtin.Keys (command.List list.LSet)) = refl
found (builtin.Keys (command.List list.LTrim)) = refl
found (builtin.Keys (command.List list.LRem)) = refl
found (builtin.Keys (command.Hash hash.HSet)) = refl
found (builtin.Keys (command.Hash hash.HMSet)) = refl
found (builtin.Keys (command.Hash hash.HSetNx)) = refl
found (builtin.Keys (command.Hash hash.HGet)) = refl
found (builtin.Keys (command.Hash hash.HMGet)) = refl
found (builtin.Keys (command.Hash hash.HDel)) = refl
found (builtin.Keys (command.Hash hash.HLen)) = refl
found (builtin.Keys (command.Hash hash.HExists)) = refl
found (builtin.Keys (command.Hash hash.HStrLen)) = refl
found (builtin.Keys (command.Hash hash.HKeys)) = refl
found (builtin.Keys (command.Hash hash.HVals)) = refl
found (builtin.Keys (command.Hash hash.HGetAll)) = refl
found (builtin.Keys (command.Hash hash.HIncrBy)) = refl
