-- Serves the clause on what a look-up gives.
use Rattle.std.proofs.Common.{sym, ap, ◌∙◌}
use Rattle.std.specs.FinMap as map
use Rattle.key_events.proofs.Entries.{get-tree}
use Rattle.key_events.proofs.table.Table.get.Goals as goal

pub returns : goal.returns
returns c = record {
  names = c.get.ensures.value ∙ sym (get-tree c.self.inside.clients c.args.client)
      ∙ ap (λ m. map.get m c.args.client) c.self.view_is;
}
