-- Serves what Table::close owes to both tables.
use Rattle.std.proofs.Common.{ap, sym, ◌∙◌, arith}
use Rattle.core_types.specs.Keys.{key_count}
use Rattle.key_store.proofs.Merged.{both_count}
use Rattle.key_store.proofs.table.Table.close.Goals as goal

pub close-requires : goal.close-requires
close-requires g c =
    let t = c.self.inside in
    let none = sym (both_count t.short t.long c.self.invariant.shorts c.self.invariant.longs) ∙ ap key_count c.self.view_is ∙ c.requires in
    omega (arith, none)

pub close-requires-2 : goal.close-requires-2
close-requires-2 g c =
    let t = c.self.inside in
    let none = sym (both_count t.short t.long c.self.invariant.shorts c.self.invariant.longs) ∙ ap key_count c.self.view_is ∙ c.requires in
    omega (arith, none)
