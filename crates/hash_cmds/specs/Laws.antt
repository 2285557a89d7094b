-- What holds of every row.
use Rattle.std.specs.Prelude.{◌<◌, ◌⊎◌, ⊤, ℕ, List, length, Option, Some, None}
use Rattle.std.specs.List.{AllByRecursion}
use Rattle.core_types.specs.CommandLaws.{ChangesNothing, removal_notes}
use Rattle.core_types.specs.CommandLaws as every
use Rattle.core_types.specs.Done.{Done}
use Rattle.core_types.specs.Fields.{AreDistinct}
use Rattle.core_types.specs.Keyspace.{IsFieldOfStrings}
use Rattle.core_types.specs.declared.field.Field.{Field}
use Rattle.core_types.specs.declared.note.NoteClass.TheVariants as class
use Rattle.hash_cmds.specs.declared.command.HashCmd.{HashCmd}
use Rattle.hash_cmds.specs.Commands.{command_row}

-- what the commands do to one key as it is
abbrev pub Acts : Type 0
Acts = HashCmd → List (List ℕ) → Done (List Field)

-- a change of the key, with one effect that makes it again, one event of a hash that tells of it,
-- and a second one where the key goes
abbrev pub ChangesOnce : Acts → List ℕ → Done (List Field) → Type 0
ChangesOnce acts key done =
    every.ChangesOnce command_row acts key class.Hash (removal_notes done.change key) done

abbrev pub ChangesAtMostOnce : Acts → List ℕ → Done (List Field) → Type 0
ChangesAtMostOnce acts key done = ChangesNothing done ⊎ ChangesOnce acts key done

-- a hash has a field, no name or value is longer than a string may be, and no name stands twice
abbrev pub IsKept : Option (List Field) → Type 0
IsKept None = ⊤
IsKept (Some fields) =
    (0 < length fields) × AllByRecursion IsFieldOfStrings fields × AreDistinct fields

-- the value, where the key had `old`, and each effect keep the limits
abbrev pub KeepsLimits : Option (List Field) → Done (List Field) → Type 0
KeepsLimits old done = every.KeepsLimits IsKept old done
