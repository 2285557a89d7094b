-- The built-in commands: those of a connection, and those on the keys.
use Rattle.std.specs.Prelude.{ℕ, ℤ, pos, negsuc, true, false, List, [], ◌∷◌, ◌++◌, length, codes, Bool, if◌then◌else◌, Option, Some, None}
use Rattle.byte_text.specs.Name.{same_name}
use Rattle.core_types.specs.CommandRow.{CommandRow}
use Rattle.key_cmds.specs.Commands.{command_row}
use Rattle.key_cmds.specs.declared.command.Command.TheVariants as command
use Rattle.key_cmds.specs.declared.command.KeyCmd.TheVariants as key
use Rattle.string_cmds.specs.declared.command.StringCmd.TheVariants as string
use Rattle.list_cmds.specs.declared.command.ListCmd.TheVariants as list
use Rattle.hash_cmds.specs.declared.command.HashCmd.TheVariants as hash
use Rattle.host_core.specs.declared.builtin.Builtin.{Builtin}
use Rattle.host_core.specs.declared.builtin.Builtin.TheVariants as builtin
use Rattle.host_core.specs.declared.connection.ConnectionCmd.{ConnectionCmd}
use Rattle.host_core.specs.declared.connection.ConnectionCmd.TheVariants as connection

-- a command that names no key
abbrev pub keyless : List ℕ → ℤ → Bool → CommandRow
keyless name arity writes = record { name = name; arity = arity; writes = writes; key = 0 }

-- the commands of a connection; SELECT may stand in a log, where it changes nothing
abbrev pub connection_row : ConnectionCmd → CommandRow
connection_row connection.Ping = keyless (codes "PING") (negsuc 0) false
connection_row connection.Echo = keyless (codes "ECHO") (pos 2) false
connection_row connection.Select = keyless (codes "SELECT") (pos 2) true
connection_row connection.Quit = keyless (codes "QUIT") (pos 1) false
connection_row connection.Command = keyless (codes "COMMAND") (pos 2) false

abbrev pub builtin_row : Builtin → CommandRow
builtin_row (builtin.Connection cmd) = connection_row cmd
builtin_row (builtin.Keys cmd) = command_row cmd

-- all of them, each once
abbrev pub connection_commands : List Builtin
connection_commands =
    builtin.Connection connection.Ping ∷
    builtin.Connection connection.Echo ∷
    builtin.Connection connection.Select ∷
    builtin.Connection connection.Quit ∷
    builtin.Connection connection.Command ∷
    []

abbrev pub key_commands : List Builtin
key_commands =
    builtin.Keys (command.Keys key.Del) ∷
    builtin.Keys (command.Keys key.Exists) ∷
    builtin.Keys (command.Keys key.Type) ∷
    builtin.Keys (command.Keys key.Rename) ∷
    builtin.Keys (command.Keys key.DbSize) ∷
    builtin.Keys (command.Keys key.MGet) ∷
    builtin.Keys (command.Keys key.MSet) ∷
    builtin.Keys (command.Keys key.Expire) ∷
    builtin.Keys (command.Keys key.PExpireAt) ∷
    builtin.Keys (command.Keys key.Ttl) ∷
    builtin.Keys (command.Keys key.PTtl) ∷
    builtin.Keys (command.Keys key.Persist) ∷
    []

abbrev pub string_commands : List Builtin
string_commands =
    builtin.Keys (command.Str string.Get) ∷
    builtin.Keys (command.Str string.Set) ∷
    builtin.Keys (command.Str string.SetNx) ∷
    builtin.Keys (command.Str string.GetSet) ∷
    builtin.Keys (command.Str string.Append) ∷
    builtin.Keys (command.Str string.StrLen) ∷
    builtin.Keys (command.Str string.GetRange) ∷
    builtin.Keys (command.Str string.SetRange) ∷
    builtin.Keys (command.Str string.Incr) ∷
    builtin.Keys (command.Str string.Decr) ∷
    builtin.Keys (command.Str string.IncrBy) ∷
    builtin.Keys (command.Str string.DecrBy) ∷
    []

abbrev pub list_commands : List Builtin
list_commands =
    builtin.Keys (command.List list.LPush) ∷
    builtin.Keys (command.List list.RPush) ∷
    builtin.Keys (command.List list.LPop) ∷
    builtin.Keys (command.List list.RPop) ∷
    builtin.Keys (command.List list.LLen) ∷
    builtin.Keys (command.List list.LIndex) ∷
    builtin.Keys (command.List list.LRange) ∷
    builtin.Keys (command.List list.LSet) ∷
    builtin.Keys (command.List list.LTrim) ∷
    builtin.Keys (command.List list.LRem) ∷
    []

abbrev pub hash_commands : List Builtin
hash_commands =
    builtin.Keys (command.Hash hash.HSet) ∷
    builtin.Keys (command.Hash hash.HMSet) ∷
    builtin.Keys (command.Hash hash.HSetNx) ∷
    builtin.Keys (command.Hash hash.HGet) ∷
    builtin.Keys (command.Hash hash.HMGet) ∷
    builtin.Keys (command.Hash hash.HDel) ∷
    builtin.Keys (command.Hash hash.HLen) ∷
    builtin.Keys (command.Hash hash.HExists) ∷
    builtin.Keys (command.Hash hash.HStrLen) ∷
    builtin.Keys (command.Hash hash.HKeys) ∷
    builtin.Keys (command.Hash hash.HVals) ∷
    builtin.Keys (command.Hash hash.HGetAll) ∷
    builtin.Keys (command.Hash hash.HIncrBy) ∷
    []

abbrev pub builtins : List Builtin
builtins =
    connection_commands ++ key_commands ++ string_commands ++ list_commands ++ hash_commands

-- how many commands are known
unfoldable pub known_commands : ℕ
known_commands = length builtins

-- the first of these of a name, in any case of its letters
abbrev pub first_named : List ℕ → List Builtin → Option Builtin
first_named name [] = None
first_named name (cmd ∷ more) =
    if same_name (builtin_row cmd).name name then Some cmd else first_named name more

-- the command of a name
unfoldable pub builtin_named : List ℕ → Option Builtin
builtin_named name = first_named name builtins
