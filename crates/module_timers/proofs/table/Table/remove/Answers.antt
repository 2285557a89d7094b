-- Serves the clauses on what a removal gives and leaves.
use Rattle.std.proofs.Common.{sym, ap, ◌∙◌}
use Rattle.std.specs.FinMap as map
use Rattle.module_timers.proofs.Entries.{get-tree, removed}
use Rattle.module_timers.proofs.table.Table.remove.Goals as goal

pub returns-clause-timer : goal.returns-clause-timer
returns-clause-timer c = c.remove.ensures.value
    ∙ sym (get-tree c.self.inside.timers c.args.number)
    ∙ ap (λ m. map.get m c.args.number) c.self.view_is

pub returns-clause-removed : goal.returns-clause-removed
returns-clause-removed c =
    removed c.self.inside.timers c.remove.new.self c.args.number c.remove.ensures.updates
    ∙ ap (λ m. map.remove m c.args.number) c.self.view_is
