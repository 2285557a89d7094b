-- serves clause `ok` of HashBody::put_all
use Rattle.std.proofs.Common.{◌≡◌, ◌≤◌}
use Rattle.std.specs.VecDeque.{deque_len}
use Rattle.indexmap.specs.IndexMap.{spare}
use Rattle.core_types.specs.Fields.{with_fields}
use Rattle.core_types.specs.HashEntries.{fields_of}
use Rattle.core_types.proofs.field_map.put_all.Given as goal

-- with what is to come, what is there makes the result, and there is room for it
abbrev pub invariant-loop-field : goal.invariant-loop-field
invariant-loop-field l =
    (with_fields (fields_of l.fields.entries) l.more.items ≡ with_fields (fields_of l.fn.fields.entries) l.fn.more.items)
    × (deque_len l.more ≤ spare l.fields)

abbrev pub decreases-loop-field : goal.decreases-loop-field
decreases-loop-field l = deque_len l.more
