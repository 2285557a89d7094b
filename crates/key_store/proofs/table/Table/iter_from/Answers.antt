-- Serves clause listed of Table::iter_from.
use Rattle.std.proofs.Common.{ap, sym, ◌∙◌, map, List, ℕ}
use Rattle.std.specs.BTreeMap.Range.{is_from_start}
use Rattle.std.specs.Cmp.Lexicographic.{slice_cmp}
use Rattle.std.specs.FinMap as finite
use Rattle.std.specs.Ordering.{nat_cmp}
use Rattle.std.specs.Range.Bound.{bound_map}
use Rattle.core_types.specs.Keys.{Entry}
use Rattle.key_store.specs.inner.Halves.{both, merged}
use Rattle.key_store.specs.Listing.{listed_from}
use Rattle.key_store.proofs.Iterated.{shown}
use Rattle.key_store.proofs.Listings.{shown_passed}
use Rattle.key_store.proofs.Merged.{both_passed, same_short}
use Rattle.key_store.proofs.table.Table.iter_from.Goals as goal

pub returns : goal.returns
returns g c =
    let t = c.self.inside in
    let start = bound_map (λ name. name.now.items) c.args.start in
    record {
      listed = c.new.ensures
          ∙ ap (map shown) (
          (λ i. merged ((c.iter_from-short.ensures.entries ∙ same_short t.short c.short_start.result start c.self.invariant.shorts c.short_start.ensures) i) (c.iter_from.ensures.entries i))
          ∙ sym (both_passed t.short t.long (λ (e : List ℕ × Entry g.row.N.Denot). is_from_start (slice_cmp nat_cmp) start e.0) c.self.invariant.shorts c.self.invariant.longs))
          ∙ sym (shown_passed shown (λ e. is_from_start (slice_cmp nat_cmp) start e.0) (finite.entries (both t.short t.long)))
          ∙ ap (λ keys. listed_from keys start) c.self.view_is;
    }
