-- Serves clauses key, entry and removed of LongTable::remove.
use Rattle.std.proofs.Common.{ap, sym, ◌∙◌}
use Rattle.std.specs.Cmp.Lexicographic.{nat_list_cmp_total}
use Rattle.std.proofs.lemmas.Map.Lookups.{exact_bytes}
use Rattle.core_types.specs.Keys.{entry_at, without}
use Rattle.key_store.proofs.Trees.{get-by_read, from_entries-removed, same_key}
use Rattle.key_store.proofs.long_table.LongTable.remove.Goals as goal

pub returns-clause-key : goal.returns-clause-key
returns-clause-key g c = same_key exact_bytes (λ k. k.items) c.args.key.now c.remove_entry.result c.remove_entry.ensures.same_key

pub returns-clause-entry : goal.returns-clause-entry
returns-clause-entry g c =
    c.remove_entry.ensures.value ∙ sym (get-by_read nat_list_cmp_total exact_bytes (λ k. k.items) c.self.inside.entries.entries c.args.key.now) ∙ ap (λ keys. entry_at keys c.args.key.now) c.self.view_is

pub returns-clause-removed : goal.returns-clause-removed
returns-clause-removed g c =
    from_entries-removed nat_list_cmp_total exact_bytes (λ k. k.items) c.self.inside.entries c.remove_entry.new.self c.args.key.now c.remove_entry.ensures.updates
    ∙ ap (λ keys. without keys c.args.key.now) c.self.view_is
