-- Serves the clause on what is held after an insertion.
use Rattle.std.proofs.Common.{ap, ◌∙◌}
use Rattle.std.specs.FinMap as map
use Rattle.key_waiters.proofs.Entries.{inserted}
use Rattle.key_waiters.proofs.table.Table.insert.Goals as goal

pub returns-in-Ok-clause-ok : goal.returns-in-Ok-clause-ok
returns-in-Ok-clause-ok c =
    inserted c.self.inside.keys c.insert.new.self c.args.ticket c.args.key c.in-Ok.ensures.updates
    ∙ ap (λ m. map.insert m c.args.ticket c.args.key) c.self.view_is
