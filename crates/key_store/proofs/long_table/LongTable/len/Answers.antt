-- Serves clause count of LongTable::len.
use Rattle.std.proofs.Common.{ap, sym, ◌∙◌}
use Rattle.std.specs.Cmp.Lexicographic.{nat_list_cmp_total}
use Rattle.std.proofs.lemmas.Map.Lookups.{exact_bytes}
use Rattle.core_types.specs.Keys.{key_count}
use Rattle.key_store.proofs.Trees.{len-read}
use Rattle.key_store.proofs.long_table.LongTable.len.Goals as goal

pub returns-clause-count : goal.returns-clause-count
returns-clause-count g c =
    c.len.ensures.len ∙ sym (len-read nat_list_cmp_total exact_bytes (λ k. k.items) c.self.inside.entries.entries c.len.ensures.ordered) ∙ ap key_count c.self.view_is
