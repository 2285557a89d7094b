-- Serves clauses there, ok and typed of Shelf::delete.
use Rattle.std.proofs.Common.{is_some, sym, ap, ◌∙◌}
use Rattle.core_types.specs.Keys.{without}
use Rattle.module_tests.specs.Shelf.{keys_of}
use Rattle.module_tests.proofs.Shelves.{gone_here, key_here, names_same, shown, told_absent, told_with, types_gone}
use Rattle.module_tests.proofs.shelf.ShelfContextValue.delete.Goals as goal

pub returns-in-Some-clause-there : goal.returns-in-Some-clause-there
returns-in-Some-clause-there g c =
    let at = c.in-Some.ensures in let slot = c.index_mut.result.now in
    sym (ap is_some (shown c.args.self.now.slots.items c.args.key.now c.in-Some.place at.newest slot (at.live slot)))

pub returns-in-Some-clause-ok : goal.returns-in-Some-clause-ok
returns-in-Some-clause-ok g c =
    let shelf = c.args.self.now in let at = c.in-Some.ensures in let slot = c.index_mut.result.now in let is = c.index_mut.ensures.value in let left = c.remove.new.self in
    told_with shelf.slots.items _ shelf.effects shelf.notes shelf.moment (without (keys_of shelf.slots.items) c.args.key.now)
    (gone_here shelf.slots.items c.args.key.now c.in-Some.place at.newest slot left
    (ap (λ s. s.key) c.remove.ensures ∙ ap (λ s. s.key) is ∙ key_here shelf.slots.items c.args.key.now c.in-Some.place at.newest slot) (ap (λ s. s.live) c.remove.ensures))
    (names_same shelf.slots.items c.in-Some.place slot left (ap (λ s. s.name) c.remove.ensures ∙ ap (λ s. s.name) is))

pub returns-in-Some-clause-typed : goal.returns-in-Some-clause-typed
returns-in-Some-clause-typed g c =
    let slots = c.args.self.now.slots.items in let at = c.in-Some.ensures in let slot = c.index_mut.result.now in let is = c.index_mut.ensures.value in
    types_gone slots c.args.key.now c.in-Some.place at.newest slot c.remove.new.self
    (ap (λ s. s.name) c.remove.ensures ∙ ap (λ s. s.name) is) (ap (λ s. s.native) c.remove.ensures ∙ ap (λ s. s.native) is)

pub returns-in-None-clause-ok : goal.returns-in-None-clause-ok
returns-in-None-clause-ok g c =
    let shelf = c.args.self.now in told_absent shelf.slots.items shelf.slots.items shelf.effects shelf.notes shelf.moment c.args.key.now c.in-None.ensures
