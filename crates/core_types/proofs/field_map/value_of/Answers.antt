-- Serves clause value of HashBody::get.
use Rattle.std.proofs.Common.{◌∙◌}
use Rattle.core_types.proofs.FieldLemmas.{value-fields_of}
use Rattle.core_types.proofs.field_map.value_of.Goals as goal

pub returns : goal.returns
returns c = record {
  value = c.get.ensures.value ∙ value-fields_of c.args.fields.now.entries c.args.name.now;
}
