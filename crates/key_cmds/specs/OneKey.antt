-- The commands on one key, by the rows of the crates that have them.
use Rattle.std.specs.Prelude.{ℕ, List, [], Option, Some, None}
use Rattle.core_types.specs.Done.{Change, Done}
use Rattle.sequences.specs.Words.{word}
use Rattle.core_types.specs.Keys.{KeysOf, value_at, with_changed, with_value, without}
use Rattle.core_types.specs.declared.field.Field.{Field}
use Rattle.core_types.specs.declared.value.Value.{Value}
use Rattle.core_types.specs.declared.value.Value.TheVariants as value
use Rattle.string_cmds.specs.Rows as string_rows
use Rattle.string_cmds.specs.declared.command.StringCmd.{StringCmd}
use Rattle.list_cmds.specs.Rows as list_rows
use Rattle.list_cmds.specs.declared.command.ListCmd.{ListCmd}
use Rattle.hash_cmds.specs.Rows as hash_rows
use Rattle.hash_cmds.specs.declared.command.HashCmd.{HashCmd}
use Rattle.key_cmds.specs.Run.{Run, native_in}

module _ {N : Type 0} where
  -- what becomes of the keys where this becomes of one of them, of the kind that `made` makes
  abbrev pub with_change : {B : Type 0} → (B → Value N) → List ℕ → Change B → KeysOf N → KeysOf N
  with_change made key Change.Stays keys = keys
  with_change made key (Change.Becomes body) keys = with_changed keys key (made body)
  with_change made key (Change.IsSet body) keys = with_value keys key (made body)
  with_change made key Change.Goes keys = without keys key

  -- the module's value that leaves by it: a key that is set or removed loses what it had
  abbrev pub left_by : {B : Type 0} → Change B → Option (Value N) → List N
  left_by Change.Stays old = []
  left_by (Change.Becomes body) old = []
  left_by (Change.IsSet body) old = native_in old
  left_by Change.Goes old = native_in old

  -- what a command does to one key, carried to the keys
  abbrev pub on_key : {B : Type 0} → (B → Value N) → List ℕ → KeysOf N → Done B → Run N
  on_key made key keys done =
      record {
        keys = with_change made key done.change keys;
        reply = done.reply;
        effects = done.effects;
        notes = done.notes;
        left = left_by done.change (value_at keys key);
      }

  -- a command on a string, where the key has this
  abbrev pub string_done : StringCmd → Option (Value N) → List (List ℕ) → Done (List ℕ)
  string_done cmd None words = string_rows.row cmd None words
  string_done cmd (Some (value.Str text)) words = string_rows.row cmd (Some text) words
  string_done cmd (Some _) words = string_rows.other_row cmd words

  -- one on a list
  abbrev pub list_done : ListCmd → Option (Value N) → List (List ℕ) → Done (List (List ℕ))
  list_done cmd None words = list_rows.row cmd None words
  list_done cmd (Some (value.List items)) words = list_rows.row cmd (Some items) words
  list_done cmd (Some _) words = list_rows.other_row cmd words

  -- one on a hash
  abbrev pub hash_done : HashCmd → Option (Value N) → List (List ℕ) → Done (List Field)
  hash_done cmd None words = hash_rows.row cmd None words
  hash_done cmd (Some (value.Hash fields)) words = hash_rows.row cmd (Some fields) words
  hash_done cmd (Some _) words = hash_rows.other_row cmd words

  abbrev pub on_string : StringCmd → KeysOf N → List (List ℕ) → Run N
  on_string cmd keys words =
      on_key value.Str (word 1 words) keys (string_done cmd (value_at keys (word 1 words)) words)

  abbrev pub on_list : ListCmd → KeysOf N → List (List ℕ) → Run N
  on_list cmd keys words =
      on_key value.List (word 1 words) keys (list_done cmd (value_at keys (word 1 words)) words)

  abbrev pub on_hash : HashCmd → KeysOf N → List (List ℕ) → Run N
  on_hash cmd keys words =
      on_key value.Hash (word 1 words) keys (hash_done cmd (value_at keys (word 1 words)) words)
