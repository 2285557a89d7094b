-- Serves clauses writes_back and entry of ShortTable::get_mut.
use Rattle.std.proofs.Common.{refl, ap, sym, ◌∙◌}
use Rattle.std.specs.Cmp.Lexicographic.{nat_list_cmp_total}
use Rattle.std.proofs.lemmas.Map.Lookups.{exact_bytes}
use Rattle.std.specs.FinMap.{from_entries}
use Rattle.core_types.specs.Keys.{entry_at}
use Rattle.key_store.proofs.Trees.{by_read, get-by_read, written}
use Rattle.key_store.proofs.short_table.ShortTable.get_mut.Goals as goal

pub returns : goal.returns
returns g c =
    let old = c.self.inside.entries in
    let lent = c.get_mut in (
      (
        refl,
        λ w. written nat_list_cmp_total exact_bytes (λ k. k) old (lent.follows.lender w) c.args.key.now lent.result w c.args.self.now lent.ensures.value (lent.follows.holds w) c.self.view_is,
        ap (λ m. from_entries (by_read nat_list_cmp_total exact_bytes (λ k. k) m.entries)) lent.follows.holds-at-none ∙ c.self.view_is,
      ),
      record {
        writes_back = tt;
        entry = lent.ensures.value ∙ sym (get-by_read nat_list_cmp_total exact_bytes (λ k. k) old.entries c.args.key.now) ∙ ap (λ keys. entry_at keys c.args.key.now) c.self.view_is;
      },
    )
