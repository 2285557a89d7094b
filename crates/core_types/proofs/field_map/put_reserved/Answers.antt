use Rattle.std.proofs.Common.{◌∙◌, ap}
use Rattle.core_types.specs.Fields.{with_field}
use Rattle.core_types.specs.HashEntries.{fields_of}
use Rattle.core_types.proofs.FieldLemmas.{fields_of-insert}
use Rattle.core_types.proofs.field_map.put_reserved.Goals as goal

pub returns-clause-put : goal.returns-clause-put
returns-clause-put c =
    ap fields_of c.in-Ok.ensures.entries ∙ fields_of-insert c.args.fields.now.entries c.into_vec.result c.args.field.value
    ∙ ap (λ name. with_field (fields_of c.args.fields.now.entries) (record { name = name; value = c.args.field.value })) c.into_vec.ensures.bytes
