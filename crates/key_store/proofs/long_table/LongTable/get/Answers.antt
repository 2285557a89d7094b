-- Serves clause entry of LongTable::get.
use Rattle.std.proofs.Common.{ap, sym, ◌∙◌}
use Rattle.std.specs.Cmp.Lexicographic.{nat_list_cmp_total}
use Rattle.std.proofs.lemmas.Map.Lookups.{exact_bytes}
use Rattle.core_types.specs.Keys.{entry_at}
use Rattle.key_store.proofs.Trees.{get-by_read}
use Rattle.key_store.proofs.long_table.LongTable.get.Goals as goal

pub returns : goal.returns
returns g c =
    let entries = c.self.inside.entries.entries in
    record {
      entry = c.get.ensures.value ∙ sym (get-by_read nat_list_cmp_total exact_bytes (λ k. k.items) entries c.args.key.now) ∙ ap (λ keys. entry_at keys c.args.key.now) c.self.view_is;
    }
