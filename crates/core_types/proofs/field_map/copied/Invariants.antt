-- serves clause `same` of HashBody::copy
use Rattle.std.proofs.Common.{◌≡◌, take}
use Rattle.core_types.specs.HashEntries.{fields_of}
use Rattle.core_types.proofs.field_map.copied.Given as goal

abbrev pub invariant-loop-place : goal.invariant-loop-place
invariant-loop-place l = fields_of l.copies.entries ≡ take l.place (fields_of l.fields.entries)
