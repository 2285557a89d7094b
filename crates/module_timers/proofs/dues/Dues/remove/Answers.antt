-- Serves the clause on what is left after a removal.
use Rattle.std.proofs.Common.{ap, ◌∙◌}
use Rattle.std.specs.FinSet as set
use Rattle.module_timers.proofs.DueSet.{removed}
use Rattle.module_timers.proofs.dues.Dues.remove.Goals as goal

pub returns : goal.returns
returns c =
    record {
      removed = removed c.self.inside.dues c.remove.new.self c.args.due
          c.remove.ensures.updates ∙ ap (λ s. set.remove s c.args.due) c.self.view_is;
    }
