-- Serves clause kind of Shelf::kind.
use Rattle.std.proofs.Common.{Some, sym, ap, ◌∙◌}
use Rattle.std.specs.Option.{option_map}
use Rattle.core_types.specs.declared.value.Kind.TheVariants as kind
use Rattle.module_laws.specs.Told.{kind_of}
use Rattle.module_tests.proofs.Shelves.{shown}
use Rattle.module_tests.proofs.shelf.ShelfContextValue.kind.Goals as goal

pub returns-in-Some : goal.returns-in-Some
returns-in-Some g c =
    let slots = c.args.self.now.slots.items in let at = c.in-Some.ensures in let slot = c.index.result.now in
    record {
      kind = ap (λ name. Some (kind.Native name)) (c.name_of.ensures ∙ ap (λ native. native.name) (c.value.ensures ∙ ap (λ s. s.native) c.index.ensures))
          ∙ sym (ap (λ entry. option_map kind_of (option_map (λ e. e.value) entry)) (shown slots c.args.key.now c.in-Some.place at.newest slot (at.live slot)));
    }
