-- Serves clause distinct of HashBody::has_distinct_names.
use Rattle.core_types.proofs.FieldLemmas.{fields_of-distinct}
use Rattle.core_types.proofs.field_map.has_distinct_names.Goals as goal

pub returns : goal.returns
returns c = record { distinct = fields_of-distinct c.args.fields.now.entries c.len.ensures.unique }
