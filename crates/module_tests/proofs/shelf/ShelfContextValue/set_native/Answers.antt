-- Serves clauses ok and typed of Shelf::set_native.
use Rattle.std.proofs.Common.{◌∷◌, true, ap, ◌∙◌}
use Rattle.module_tests.proofs.Shelves.{told_put, types_put}
use Rattle.module_tests.proofs.shelf.ShelfContextValue.set_native.Goals as goal

pub returns-clause-typed : goal.returns-clause-typed
returns-clause-typed g c =
    let shelf = c.args.self.now in let native = g.M.Value.Viewed.native c.args.value in
    types_put shelf.slots.items c.insert.new.self.items c.args.key.now native
    (c.in-Ok-insert.ensures.items ∙ ap (λ xs. c.new.result ∷ xs) c.reserve.ensures.items
    ∙ ap (λ x. x ∷ shelf.slots.items) c.new.ensures
    ∙ ap (λ key. record { key = key; name = c.name_of-name.result; native = native; live = true } ∷ shelf.slots.items) c.in-Ok.ensures.bytes
    ∙ ap (λ name. record { key = c.args.key.now; name = name; native = native; live = true } ∷ shelf.slots.items) c.name_of-name.ensures)

pub returns-clause-ok : goal.returns-clause-ok
returns-clause-ok g c =
    let shelf = c.args.self.now in let native = g.M.Value.Viewed.native c.args.value in
    told_put shelf.slots.items c.insert.new.self.items shelf.effects shelf.notes shelf.moment c.args.key.now native
    (c.in-Ok-insert.ensures.items ∙ ap (λ xs. c.new.result ∷ xs) c.reserve.ensures.items
    ∙ ap (λ x. x ∷ shelf.slots.items) c.new.ensures
    ∙ ap (λ key. record { key = key; name = c.name_of-name.result; native = native; live = true } ∷ shelf.slots.items) c.in-Ok.ensures.bytes
    ∙ ap (λ name. record { key = c.args.key.now; name = name; native = native; live = true } ∷ shelf.slots.items) c.name_of-name.ensures)
