-- Serves clause count of Table::len.
use Rattle.std.proofs.Common.{ap, sym, ◌∙◌, ◌+◌, arith}
use Rattle.core_types.specs.Keys.{key_count}
use Rattle.key_store.proofs.Merged.{both_count}
use Rattle.key_store.proofs.table.Table.len.Goals as goal

pub returns : goal.returns
returns g c =
    let t = c.self.inside in
    record {
      small = (
          let short = c.len.ensures.count in
          let long = c.len-2.ensures.count in
          let few = c.self.invariant.few in
          omega (arith, short, long, few)
          );
      count = (λ i. c.len.ensures.count i + c.len-2.ensures.count i) ∙ sym (both_count t.short t.long c.self.invariant.shorts c.self.invariant.longs) ∙ ap key_count c.self.view_is;
    }
