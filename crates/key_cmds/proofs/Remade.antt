-- What a command does to the keys, one effect makes again. Serves the clauses of
-- effects_remake_changes and of refusals_change_nothing.
use Rattle.std.proofs.Common.{◌≡◌, ◌≢◌, ℕ, false, List, ap}
use Rattle.core_types.specs.CommandRow.{MeetArity}
use Rattle.core_types.specs.Keys.{KeysOf}
use Rattle.key_cmds.specs.declared.command.Command.{Command}
use Rattle.key_cmds.specs.declared.command.Command.TheVariants as command
use Rattle.key_cmds.specs.declared.command.KeyCmd.TheVariants as key_command
use Rattle.key_cmds.specs.Commands.{command_row}
use Rattle.key_cmds.specs.Laws.{ChangesAtMostOnce, ChangesNothing}
use Rattle.key_cmds.specs.Rows.{does}
use Rattle.key_cmds.proofs.OneRemade.{hash_read, hash_remade, list_read, list_remade, string_read, string_remade}
use Rattle.key_cmds.proofs.SeveralRemade.{keys_read, keys_remade}

module _ {N : Type 0} (type_name : N → List ℕ) (moment : ℕ) where
  pub remade : (cmd : Command) (keys : KeysOf N) (words : List (List ℕ)) → MeetArity (command_row cmd) words → ChangesAtMostOnce type_name keys (does type_name moment cmd keys words)
  remade (command.Keys cmd) keys words arity = keys_remade type_name moment cmd keys words arity
  remade (command.Str cmd) keys words arity = string_remade type_name cmd keys words arity
  remade (command.List cmd) keys words arity = list_remade type_name cmd keys words arity
  remade (command.Hash cmd) keys words arity = hash_remade type_name cmd keys words arity

  pub read : (cmd : Command) (keys : KeysOf N) (words : List (List ℕ)) → MeetArity (command_row cmd) words → (command_row cmd).writes ≡ false → cmd ≢ command.Keys key_command.Expire → ChangesNothing keys (does type_name moment cmd keys words)
  read (command.Keys cmd) keys words arity reads other = keys_read type_name moment cmd keys words reads (λ same. other (ap command.Keys same))
  read (command.Str cmd) keys words arity reads other = string_read type_name cmd keys words arity reads
  read (command.List cmd) keys words arity reads other = list_read type_name cmd keys words arity reads
  read (command.Hash cmd) keys words arity reads other = hash_read type_name cmd keys words arity reads
