-- Serves what `ShortTable::close` owes to the tree.
use Rattle.std.proofs.Common.{ap, ◌∙◌}
use Rattle.std.specs.Cmp.Lexicographic.{nat_list_cmp_total}
use Rattle.std.proofs.lemmas.Map.Lookups.{exact_bytes}
use Rattle.core_types.specs.Keys.{key_count}
use Rattle.key_store.proofs.Trees.{none_left}
use Rattle.key_store.proofs.short_table.ShortTable.close.Goals as goal

pub destroy_empty-requires : goal.destroy_empty-requires
destroy_empty-requires g c = none_left nat_list_cmp_total exact_bytes (λ k. k) c.self.inside.entries.entries (ap key_count c.self.view_is ∙ c.requires)
