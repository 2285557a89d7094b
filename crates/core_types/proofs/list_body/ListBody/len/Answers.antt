use Rattle.std.proofs.Common.{◌<◌, ◌^◌, length, subst, arith}
use Rattle.core_types.proofs.list_body.ListBody.len.Goals as goal

pub returns-clause-bounded : goal.returns-clause-bounded
returns-clause-bounded c =
    let items = c.self.inside.items.value in
    let long = items.ok.0 in
    let room = items.small.0 in
    let fits = items.small.1 in
    let below : length items.items < 2 ^ 63 = omega (arith, long, room, fits) in
    subst (λ xs. length xs < 2 ^ 63) c.self.view_is below
