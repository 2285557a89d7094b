use Rattle.std.proofs.Common.{◌≡◌, ◌+◌, suc, Some, slice_get, take, ◌∙◌, ap, sym, arith}
use Rattle.std.specs.Option.{option_map}
use Rattle.std.specs.Map.Iter.{deref_pair}
use Rattle.std.proofs.lemmas.Option.{slice_get-map}
use Rattle.core_types.specs.Fields.{with_field}
use Rattle.core_types.specs.HashEntries.{fields_of}
use Rattle.core_types.proofs.FieldLemmas.{field_of, put_next, fields_of-distinct}
use Rattle.core_types.proofs.field_map.copied.Goals as goal

pub loop-place-preserved : goal.loop-place-preserved
loop-place-preserved c =
    let entries = c.args.fields.now.entries in
    let place = c.loop-place.place in
    let name = c.deref.result.now in
    let value = c.unwrap.result.1.now in
    let found : slice_get entries place ≡ Some (c.unwrap.result.0.now, value) =
    sym c.get_index.ensures.entry ∙ ap (option_map deref_pair) c.unwrap.ensures in
    let at : slice_get (fields_of entries) place ≡ Some (record { name = name; value = value }) =
    slice_get-map field_of entries place ∙ ap (option_map field_of) found
    ∙ ap (λ bytes. Some (record { name = bytes; value = value })) (sym c.deref.ensures.value) in
    let distinct = fields_of-distinct entries c.len.ensures.unique in
    let next : suc place ≡ place + 1 = omega arith in
    c.in_ok-insert_copy.ensures.ok
    ∙ ap (λ fields. with_field fields (record { name = name; value = value })) c.loop-place.invariant
    ∙ put_next (fields_of entries) place (record { name = name; value = value }) distinct at
    ∙ ap (λ n. take n (fields_of entries)) next
