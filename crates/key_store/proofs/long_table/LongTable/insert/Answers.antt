-- Serves clauses old, ok and absent of LongTable::insert.
use Rattle.std.proofs.Common.{ap, sym, ◌∙◌}
use Rattle.std.specs.Cmp.Lexicographic.{nat_list_cmp_total}
use Rattle.std.proofs.lemmas.Map.Lookups.{exact_bytes}
use Rattle.core_types.specs.Keys.{entry_at, with_entry}
use Rattle.key_store.proofs.Trees.{get-by_read, from_entries-put}
use Rattle.key_store.proofs.long_table.LongTable.insert.Goals.{in-Ok, in-Err}
use Rattle.key_store.proofs.long_table.LongTable.insert.Goals as goal

pub returns-clause-old : goal.returns-clause-old
returns-clause-old g c =
    elim c.match-insert.branch [
      | in-Ok w ↦ rw w.result-is (w.in-Ok.ensures.old ∙ sym (get-by_read nat_list_cmp_total exact_bytes (λ k. k.items) c.self.inside.entries.entries c.args.key.items) ∙ ap (λ keys. entry_at keys c.args.key.items) c.self.view_is)
      | in-Err w ↦ rw w.result-is tt
    ]

pub returns-clause-ok : goal.returns-clause-ok
returns-clause-ok g c =
    elim c.match-insert.branch [
      | in-Ok w ↦ rw w.result-is (from_entries-put nat_list_cmp_total exact_bytes (λ k. k.items) c.self.inside.entries c.insert.new.self c.args.key.items c.args.stored w.in-Ok.ensures.updates ∙ ap (λ keys. with_entry keys c.args.key.items c.args.stored) c.self.view_is)
      | in-Err w ↦ rw w.result-is tt
    ]

pub returns-clause-absent : goal.returns-clause-absent
returns-clause-absent g c =
    elim c.match-insert.branch [
      | in-Ok w ↦ rw w.result-is tt
      | in-Err w ↦ rw w.result-is (ap (λ keys. entry_at keys c.args.key.items) (sym c.self.view_is) ∙ get-by_read nat_list_cmp_total exact_bytes (λ k. k.items) c.self.inside.entries.entries c.args.key.items ∙ w.in-Err.ensures.absent)
    ]
