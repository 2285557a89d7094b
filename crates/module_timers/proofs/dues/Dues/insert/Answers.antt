-- Serves the clause on what is entered after an insertion.
use Rattle.std.proofs.Common.{ap, ◌∙◌}
use Rattle.std.specs.FinSet as set
use Rattle.module_timers.proofs.DueSet.{inserted}
use Rattle.module_timers.proofs.dues.Dues.insert.Goals as goal

pub returns-clause-ok : goal.returns-clause-ok
returns-clause-ok c =
    inserted c.self.inside.dues c.insert.new.self c.args.due c.in_ok-insert.ensures.updates
    ∙ ap (λ s. set.insert s c.args.due) c.self.view_is
