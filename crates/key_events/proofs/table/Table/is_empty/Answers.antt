-- Serves the clause on whether no client has a name.
use Rattle.std.proofs.Common.{◌==◌, ap, sym, ◌∙◌}
use Rattle.std.specs.FinMap as map
use Rattle.key_events.proofs.Entries.{len-sorted}
use Rattle.key_events.proofs.table.Table.is_empty.Goals as goal

pub returns : goal.returns
returns c = record {
  empty = ap (λ n. n == 0)
      (c.len.ensures.len ∙ sym (len-sorted c.self.inside.clients.entries c.len.ensures.ordered)
      ∙ ap map.len c.self.view_is);
}
