-- Serves clauses before and left of HashBody::remove.
use Rattle.std.proofs.Common.{◌∙◌, ap}
use Rattle.core_types.specs.HashEntries.{fields_of}
use Rattle.core_types.proofs.FieldLemmas.{value-fields_of, fields_of-remove}
use Rattle.core_types.proofs.field_map.remove.Goals as goal

pub returns-clause-before : goal.returns-clause-before
returns-clause-before c =
    c.shift_remove.ensures.value ∙ value-fields_of c.args.fields.now.entries c.args.name.now

pub returns-clause-left : goal.returns-clause-left
returns-clause-left c =
    ap fields_of c.shift_remove.ensures.entries
    ∙ fields_of-remove c.args.fields.now.entries c.args.name.now
