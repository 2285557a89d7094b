-- Serves clauses before and ok of HashBody::put.
use Rattle.std.proofs.Common.{◌∙◌, ap, sym}
use Rattle.core_types.specs.Fields.{field_value, with_field}
use Rattle.core_types.specs.HashEntries.{fields_of}
use Rattle.core_types.proofs.FieldLemmas.{value-fields_of, fields_of-insert, put_at}
use Rattle.core_types.proofs.field_map.put.Goals as goal

pub returns-in-Some-clause-before : goal.returns-in-Some-clause-before
returns-in-Some-clause-before c =
    sym c.replace.ensures.before ∙ c.in-Some.ensures.value
    ∙ value-fields_of c.args.fields.now.entries c.args.name.now

pub returns-in-Some-clause-ok : goal.returns-in-Some-clause-ok
returns-in-Some-clause-ok c =
    ap fields_of c.replace.ensures.written
    ∙ put_at c.args.fields.now.entries c.args.name.now c.args.value c.in-Some.place
    c.in-Some.ensures.index

pub returns-in_ok-insert-in-None-clause-before : goal.returns-in_ok-insert-in-None-clause-before
returns-in_ok-insert-in-None-clause-before c =
    c.in_ok-insert-in-None.ensures.old
    ∙ value-fields_of c.args.fields.now.entries c.in_ok-name-in-None.name.items
    ∙ ap (λ name. field_value (fields_of c.args.fields.now.entries) name)
    c.in_ok-name-in-None.ensures.items

pub returns-in_ok-insert-in-None-clause-ok : goal.returns-in_ok-insert-in-None-clause-ok
returns-in_ok-insert-in-None-clause-ok c =
    let there = c.args.fields.now.entries in
    ap fields_of c.in_ok-insert-in-None.ensures.entries
    ∙ fields_of-insert there c.in_ok-name-in-None.name c.args.value
    ∙ ap (λ name. with_field (fields_of there) (record { name = name; value = c.args.value }))
    c.in_ok-name-in-None.ensures.items
