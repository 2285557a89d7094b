-- Serves the clause of Shelf::place.
use Rattle.std.proofs.Common.{sym, ap, ◌∙◌}
use Rattle.module_tests.proofs.Shelves.{hidden, missing}
use Rattle.module_tests.proofs.shelf.Shelf.place.Goals as goal

pub returns-in_default : goal.returns-in_default
returns-in_default g c =
    hidden c.args.self.now.slots.items c.args.key.now c.in-Some.place (sym c.newest.ensures ∙ c.in-Some.is) c.index.result.now
    (ap (λ slot. slot.live) (sym c.index.ensures) ∙ sym c.is_live.ensures ∙ c.if-is_live.false)

pub returns-in_default-2 : goal.returns-in_default-2
returns-in_default-2 g c = missing c.args.self.now.slots.items c.args.key.now (sym c.newest.ensures ∙ c.in_default.is)
