-- Serves clauses lends and value of Shelf::native_mut.
use Rattle.std.proofs.Common.{Some, refl, sym, ap, ◌∙◌}
use Rattle.std.specs.Option.{option_map}
use Rattle.core_types.specs.Keys.{with_changed}
use Rattle.core_types.specs.declared.value.Value.TheVariants as value
use Rattle.module_tests.specs.Shelf.{keys_of}
use Rattle.module_tests.proofs.Shelves.{key_here, names_same, put_here, shown, told_with, types_kept}
use Rattle.module_tests.proofs.shelf.ShelfContextValue.native_mut.Goals as goal

pub returns-in-Some : goal.returns-in-Some
returns-in-Some g c =
    let shelf = c.args.self.now in let slots = shelf.slots.items in let at = c.in-Some.ensures in let slot = c.index_mut.result.now in let is = c.index_mut.ensures.value in
    let left = λ (w : g.row.M-Value.Denot). record slot { native = g.M.Value.Viewed.native w } in (
      (
        refl,
        (λ w ok. (
          told_with slots _ shelf.effects shelf.notes shelf.moment (with_changed (keys_of slots) c.args.key.now (value.Native (g.M.Value.Viewed.native w)))
              (put_here slots c.args.key.now c.in-Some.place at.newest slot (left w)
              (ap (λ s. s.key) is ∙ key_here slots c.args.key.now c.in-Some.place at.newest slot) (ap (λ s. s.live) is ∙ at.live slot))
              (names_same slots c.in-Some.place slot (left w) (ap (λ s. s.name) is)),
          refl,
          types_kept slots c.args.key.now c.in-Some.place at.newest slot (left w) (ap (λ s. s.name) is) (at.live slot),
        )),
        tt,
      ),
      record {
        lends = tt;
        value = ap (option_map (λ entry. entry.value)) (shown slots c.args.key.now c.in-Some.place at.newest slot (at.live slot))
            ∙ ap (λ native. Some (value.Native native)) (sym (c.value_mut.ensures.value ∙ ap (λ s. s.native) is));
        fault = tt;
      },
    )
