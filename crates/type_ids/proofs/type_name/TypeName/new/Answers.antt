use Rattle.std.proofs.Common.{◌≢◌, sym}
use Rattle.std.proofs.lemmas.Slice.Eq.{bytes_eq-Decides}
use Rattle.type_ids.specs.Name.{reserved_name}
use Rattle.type_ids.proofs.Names.{bad-found, named-found}
use Rattle.type_ids.proofs.type_name.TypeName.new.Goals as goal

pub returns-in-Some-clause-err : goal.returns-in-Some-clause-err
returns-in-Some-clause-err c =
    let array = c.in-Ok.ensures.1 in
    rw (← array.same) (bad-found c.in-Ok.name c.in-Some.place (rw array.same array.long) (sym c.in-Some.ensures))

pub invariant_of-result : goal.invariant_of-result
invariant_of-result c =
    let array = c.in-Ok.ensures.1 in
    let free : c.in-Ok.name ≢ reserved_name = λ e. let yes = ((bytes_eq-Decides c.in-Ok.name reserved_name).1 e) in cc in
    named-found c.in-Ok.name (rw array.same array.long) (sym c.in_default-bad_place.ensures) free

pub returns-clause-named : goal.returns-clause-named
returns-clause-named c = rw (← c.in-Ok.ensures.1.same) (invariant_of-result c)
