-- Commands by their names.
use Rattle.std.specs.Prelude.{◌==◌, ◌&&◌, Bool, true, not, List, [], ◌∷◌, map, find, Option, codes}
use Rattle.std.specs.Char.{to_ascii_uppercase}
use Rattle.std.specs.List.{list_all, list_any}
use Rattle.std.specs.Str.{bytes_eq}
use Rattle.core_types.specs.CommandRow.{CommandRow}
use Rattle.module_laws.specs.Words.{Bytes, Words}

-- the name of a command, as its words begin, in upper case
abbrev pub command_name : Words → Bytes
command_name [] = []
command_name (word ∷ words) = map to_ascii_uppercase word

abbrev pub row_named : Bytes → List CommandRow → Option CommandRow
row_named name rows = find (λ row. bytes_eq row.name name) rows

-- a dot stands in the name, as in each name of a module's command and in no other
abbrev pub has_dot : Bytes → Bool
has_dot name = list_any (λ byte. byte == 46) name

-- one of these is the name
abbrev pub is_among : Bytes → List Bytes → Bool
is_among name names = list_any (bytes_eq name) names

-- no name stands twice
abbrev pub are_distinct : List Bytes → Bool
are_distinct [] = true
are_distinct (name ∷ names) = not (is_among name names) && are_distinct names

-- the commands of a connection, and SAVE
abbrev pub connection_names : List Bytes
connection_names = codes "PING" ∷ codes "ECHO" ∷ codes "SELECT" ∷ codes "QUIT" ∷ codes "COMMAND"
    ∷ codes "MODULE" ∷ codes "MULTI" ∷ codes "EXEC" ∷ codes "DISCARD" ∷ codes "WATCH"
    ∷ codes "UNWATCH" ∷ codes "SAVE" ∷ []

-- a built-in command on keys may have this name: no module's command and none of a connection has it
abbrev pub is_key_name : Bytes → Bool
is_key_name name = not (has_dot name) && not (is_among name connection_names)

abbrev pub are_key_commands : List CommandRow → Bool
are_key_commands rows = list_all (λ row. is_key_name row.name) rows
