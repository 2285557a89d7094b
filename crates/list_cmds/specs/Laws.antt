-- What holds of every row.
use Rattle.std.specs.Prelude.{◌<◌, ◌⊎◌, ⊤, ℕ, List, length, Option, Some, None}
use Rattle.std.specs.List.{AllByRecursion}
use Rattle.core_types.specs.CommandLaws.{ChangesNothing, removal_notes}
use Rattle.core_types.specs.CommandLaws as every
use Rattle.core_types.specs.Done.{Done}
use Rattle.core_types.specs.Keyspace.{IsString}
use Rattle.core_types.specs.declared.note.NoteClass.TheVariants as class
use Rattle.list_cmds.specs.declared.command.ListCmd.{ListCmd}
use Rattle.list_cmds.specs.Commands.{command_row}

-- what the commands do to one key as it is
abbrev pub Acts : Type 0
Acts = ListCmd → List (List ℕ) → Done (List (List ℕ))

-- a change of the key, with one effect that makes it again and one event of a list that tells of
-- it; where the key is removed, a second event tells of that
abbrev pub ChangesOnce : Acts → List ℕ → Done (List (List ℕ)) → Type 0
ChangesOnce acts key done =
    every.ChangesOnce command_row acts key class.List (removal_notes done.change key) done

abbrev pub ChangesAtMostOnce : Acts → List ℕ → Done (List (List ℕ)) → Type 0
ChangesAtMostOnce acts key done = ChangesNothing done ⊎ ChangesOnce acts key done

-- a list has an item, and no item is longer than a string may be
abbrev pub IsKept : Option (List (List ℕ)) → Type 0
IsKept None = ⊤
IsKept (Some items) = (0 < length items) × AllByRecursion IsString items

-- the value, where the key had `old`, and each effect keep the limits
abbrev pub KeepsLimits : Option (List (List ℕ)) → Done (List (List ℕ)) → Type 0
KeepsLimits old done = every.KeepsLimits IsKept old done
