-- Serves clause value of Shelf::native.
use Rattle.std.proofs.Common.{Some, sym, ap, ◌∙◌}
use Rattle.std.specs.Option.{option_map}
use Rattle.core_types.specs.declared.value.Value.TheVariants as value
use Rattle.module_tests.proofs.Shelves.{shown}
use Rattle.module_tests.proofs.shelf.ShelfContextValue.native.Goals as goal

pub returns-in-Some-clause-value : goal.returns-in-Some-clause-value
returns-in-Some-clause-value g c =
    let at = c.in-Some.ensures in let slot = c.index.result.now in
    ap (option_map (λ entry. entry.value)) (shown c.args.self.now.slots.items c.args.key.now c.in-Some.place at.newest slot (at.live slot))
    ∙ ap (λ native. Some (value.Native native)) (sym (c.value.ensures ∙ ap (λ s. s.native) c.index.ensures))
