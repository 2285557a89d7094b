-- Serves clause empty of Table::new, and the invariant of a table without keys.
use Rattle.std.proofs.Common.{subst, sym, ap, ◌∙◌, arith}
use Rattle.key_store.specs.inner.Halves.{both, AllShort, AllLong}
use Rattle.core_types.specs.Keys.{key_count}
use Rattle.key_store.proofs.Counts.{none_counted}
use Rattle.key_store.proofs.Halves.{none_in_both, none_long, none_short}
use Rattle.key_store.proofs.table.Table.new.Goals as goal

pub invariant_of-result : goal.invariant_of-result
invariant_of-result g c =
    record {
      shorts = subst AllShort (sym c.new.ensures.empty) none_short;
      longs = subst AllLong (sym c.new-2.ensures.empty) none_long;
      few = (let short = ap key_count c.new.ensures.empty in let long = ap key_count c.new-2.ensures.empty in let none = none_counted g.row.N.Denot in omega (arith, short, long, none));
    }

pub returns : goal.returns
returns g c = record { empty = (λ i. both (c.new.ensures.empty i) (c.new-2.ensures.empty i)) ∙ none_in_both }
