-- Serves the clause on what a look-up gives.
use Rattle.std.proofs.Common.{sym, ap, ◌∙◌}
use Rattle.std.specs.FinMap as map
use Rattle.module_timers.proofs.Entries.{get-tree}
use Rattle.module_timers.proofs.table.Table.get.Goals as goal

pub returns : goal.returns
returns c = record {
  timer = c.get.ensures.value
      ∙ sym (get-tree c.self.inside.timers c.args.number)
      ∙ ap (λ m. map.get m c.args.number) c.self.view_is;
}
