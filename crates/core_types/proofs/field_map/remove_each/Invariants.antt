-- Serves clauses left and count of HashBody::remove_all.
use Rattle.std.proofs.Common.{◌≡◌, ◌≤◌}
use Rattle.indexmap.specs.IndexMap.{index_map_len}
use Rattle.core_types.specs.Fields.{without_fields}
use Rattle.core_types.specs.HashEntries.{fields_of}
use Rattle.core_types.proofs.field_map.remove_each.Given as goal

-- with the names that are left taken out, what is there makes the result
abbrev pub invariant-loop-name : goal.invariant-loop-name
invariant-loop-name l =
    (without_fields (fields_of l.fields.entries) l.name-iterator
    ≡ without_fields (fields_of l.fn.fields.entries) l.fn.names)
    × (index_map_len l.fields ≤ l.before)
