-- Serves the clause on what is held after an insertion.
use Rattle.std.proofs.Common.{ap, ◌∙◌}
use Rattle.std.specs.FinMap as map
use Rattle.module_timers.proofs.Entries.{inserted}
use Rattle.module_timers.proofs.table.Table.insert.Goals as goal

pub returns-in-Ok-clause-ok : goal.returns-in-Ok-clause-ok
returns-in-Ok-clause-ok c =
    inserted c.self.inside.timers c.insert.new.self c.args.number c.args.timer
    c.in-Ok.ensures.updates
    ∙ ap (λ m. map.insert m c.args.number c.args.timer) c.self.view_is
