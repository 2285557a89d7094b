-- Serves clause entries of ShortTable::iter_from.
use Rattle.std.proofs.Common.{ap, sym, ◌∙◌}
use Rattle.std.specs.BTreeMap.Range.{is_from_start}
use Rattle.std.specs.Cmp.Lexicographic.{slice_cmp, nat_list_cmp_total}
use Rattle.std.specs.FinMap as finite
use Rattle.std.specs.List.{filter}
use Rattle.std.specs.Ordering.{nat_cmp}
use Rattle.std.proofs.lemmas.Map.Lookups.{exact_bytes}
use Rattle.key_store.proofs.Listings.{read_part, read_as_is}
use Rattle.key_store.proofs.Trees.{entries-read}
use Rattle.key_store.proofs.short_table.ShortTable.iter_from.Goals as goal

pub returns : goal.returns
returns g c =
    let is = sym (entries-read nat_list_cmp_total exact_bytes (λ k. k)
    c.self.inside.entries.entries c.range.ensures.ordered) ∙ ap finite.entries c.self.view_is in
    record {
      entries = read_part (λ k. k) c.args.start c.self.inside.entries.entries c.range.result
          (c.range.ensures.between tt)
          ∙ (λ i. filter (λ e. is_from_start (slice_cmp nat_cmp) ((read_as_is c.args.start) i) e.0) (is i));
    }
