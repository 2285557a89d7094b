-- What holds of every row.
use Rattle.std.specs.Prelude.{◌⊎◌, ⊤, ℕ, List, [], Option, Some, None}
use Rattle.core_types.specs.CommandLaws.{ChangesNothing}
use Rattle.core_types.specs.CommandLaws as every
use Rattle.core_types.specs.Done.{Done}
use Rattle.core_types.specs.Keyspace.{IsString}
use Rattle.core_types.specs.declared.note.NoteClass.TheVariants as class
use Rattle.string_cmds.specs.declared.command.StringCmd.{StringCmd}
use Rattle.string_cmds.specs.Commands.{command_row}

-- what the commands do to one key as it is
abbrev pub Acts : Type 0
Acts = StringCmd → List (List ℕ) → Done (List ℕ)

-- a change of the key, with one effect that makes it again and one event of a string that tells of
-- it
abbrev pub ChangesOnce : Acts → List ℕ → Done (List ℕ) → Type 0
ChangesOnce acts key done = every.ChangesOnce command_row acts key class.String [] done

abbrev pub ChangesAtMostOnce : Acts → List ℕ → Done (List ℕ) → Type 0
ChangesAtMostOnce acts key done = ChangesNothing done ⊎ ChangesOnce acts key done

-- a value is no longer than a string may be
abbrev pub IsKept : Option (List ℕ) → Type 0
IsKept None = ⊤
IsKept (Some bytes) = IsString bytes

-- the value, where the key had `old`, and each effect keep the limits
abbrev pub KeepsLimits : Option (List ℕ) → Done (List ℕ) → Type 0
KeepsLimits old done = every.KeepsLimits IsKept old done
