-- Serves the clause on what a look-up gives.
use Rattle.std.proofs.Common.{sym, ap, ◌∙◌}
use Rattle.std.specs.FinMap as map
use Rattle.key_waiters.proofs.Entries.{get-tree}
use Rattle.key_waiters.proofs.table.Table.get.Goals as goal

pub returns : goal.returns
returns c = record {
  key = c.get.ensures.value ∙ sym (get-tree c.self.inside.keys c.args.ticket)
      ∙ ap (λ m. map.get m c.args.ticket) c.self.view_is;
}
