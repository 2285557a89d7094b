-- Serves clause bounded of HashBody::len.
use Rattle.std.proofs.Common.{arith}
use Rattle.std.proofs.lemmas.List.{length-map}
use Rattle.core_types.proofs.FieldLemmas.{field_of}
use Rattle.core_types.proofs.field_map.count.Goals as goal

pub returns-clause-bounded : goal.returns-clause-bounded
returns-clause-bounded c =
    let long = length-map c.args.fields.now.entries field_of in
    let is = c.len.ensures.len in
    let small = c.len.ensures.small in
    omega (arith, long, is, small)
