-- serves clause `same` of HashBody::copy
use Rattle.std.proofs.Common.{◌∙◌, ap}
use Rattle.core_types.specs.Fields.{with_field}
use Rattle.core_types.specs.HashEntries.{fields_of}
use Rattle.core_types.proofs.FieldLemmas.{fields_of-insert}
use Rattle.core_types.proofs.field_map.insert_copy.Goals as goal

pub returns : goal.returns
returns c =
    let there = c.args.fields.now.entries in
    let name = c.in_ok-from_slice.field-0 in
    let value = c.in_ok-copy.field-0 in
    record {
      ok = ap fields_of c.in_ok-insert.ensures.entries
          ∙ fields_of-insert there name value
          ∙ ap (λ bytes. with_field (fields_of there) (record { name = bytes; value = value })) c.in_ok-from_slice.ensures.items
          ∙ ap (λ copy. with_field (fields_of there) (record { name = c.args.name.now; value = copy })) c.in_ok-copy.ensures.same;
    }
