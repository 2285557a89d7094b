-- What each command does to the keys at a moment: one line a command, after the Redis command
-- reference.
use Rattle.std.specs.Prelude.{ℕ, List}
use Rattle.core_types.specs.Keys.{KeysOf}
use Rattle.key_cmds.specs.declared.command.Command.{Command}
use Rattle.key_cmds.specs.declared.command.Command.TheVariants as command
use Rattle.key_cmds.specs.declared.command.KeyCmd.{KeyCmd}
use Rattle.key_cmds.specs.declared.command.KeyCmd.TheVariants as key
use Rattle.key_cmds.specs.Run.{Run}
use Rattle.key_cmds.specs.OneKey.{on_hash, on_list, on_string}
use Rattle.key_cmds.specs.SeveralKeys.{count, delete, exists, get_each, rename, set_each, tell_type}
use Rattle.key_cmds.specs.Deadlines.{expire, expire_when, milliseconds_told, persist, seconds_left, tell_left}

-- `type_name` tells the name of the type of a module's value, by which TYPE answers
module _ {N : Type 0} (type_name : N → List ℕ) where
  -- a command on keys of any kind
  abbrev pub on_keys : ℕ → KeyCmd → KeysOf N → List (List ℕ) → Run N
  on_keys moment key.Del keys words = delete keys words
  on_keys moment key.Exists keys words = exists keys words
  on_keys moment key.Type keys words = tell_type type_name keys words
  on_keys moment key.Rename keys words = rename keys words
  on_keys moment key.DbSize keys words = count keys
  on_keys moment key.MGet keys words = get_each keys words
  on_keys moment key.MSet keys words = set_each keys words
  on_keys moment key.Expire keys words = expire moment keys words
  on_keys moment key.PExpireAt keys words = expire_when moment keys words
  on_keys moment key.Ttl keys words = tell_left (seconds_left moment) keys words
  on_keys moment key.PTtl keys words = tell_left (milliseconds_told moment) keys words
  on_keys moment key.Persist keys words = persist keys words

  -- a command, whose words meet its arity
  abbrev pub does : ℕ → Command → KeysOf N → List (List ℕ) → Run N
  does moment (command.Keys cmd) keys words = on_keys moment cmd keys words
  does moment (command.Str cmd) keys words = on_string cmd keys words
  does moment (command.List cmd) keys words = on_list cmd keys words
  does moment (command.Hash cmd) keys words = on_hash cmd keys words
