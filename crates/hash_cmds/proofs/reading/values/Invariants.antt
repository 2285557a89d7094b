-- Serves the clause of values: the replies so far, and those to the names that are left.
use Rattle.std.proofs.Common.{◌≡◌, ◌+◌, ◌++◌, length, map, flat_map}
use Rattle.core_types.specs.Answers.{bulk_or_null}
use Rattle.core_types.specs.Fields.{field_value}
use Rattle.core_types.specs.Parts.{parts_of}
use Rattle.hash_cmds.specs.Reading.{values_of}
use Rattle.hash_cmds.proofs.reading.values.Given as goal

abbrev pub invariant-loop-name : goal.invariant-loop-name
invariant-loop-name l =
    (l.replies.count + length l.name-iterator ≡ length l.fn.names)
    × (l.replies.parts ++ flat_map parts_of (map (λ name. bulk_or_null (field_value l.hash name)) l.name-iterator)
    ≡ (values_of l.hash l.fn.names).parts)
