-- The words of a command, and which of them write.
use Rattle.std.specs.Prelude.{◌&&◌, Bool, false, ◌∷◌, drop, length, List, Option, Some, None}
use Rattle.core_types.specs.CommandRow.{CommandRow, takes}
use Rattle.sequences.specs.Words.{word}
use Rattle.module_laws.specs.Named.{command_name, row_named}
use Rattle.module_laws.specs.Words.{Words}

-- the words of a command, its name in upper case
abbrev pub own : Words → Words
own words = command_name words ∷ drop 1 words

abbrev pub writes_by : Option CommandRow → Words → Bool
writes_by None words = false
writes_by (Some row) words = row.writes && takes row.arity (length words)

-- the words are those of one of these commands, as many as it takes, and it writes
abbrev pub is_write : List CommandRow → Words → Bool
is_write rows words = writes_by (row_named (word 0 words) rows) words
