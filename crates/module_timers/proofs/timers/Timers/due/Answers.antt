-- Serves the clause on the due timer.
use Rattle.std.proofs.Common.{ap, ◌∙◌}
use Rattle.module_timers.specs.TimerTable.{TimerTable, due_at}
use Rattle.module_timers.specs.inner.Indexed.{table_of}
use Rattle.module_timers.proofs.Found.{index_of_due}
use Rattle.module_timers.proofs.timers.Timers.due.Goals as goal

pub returns : goal.returns
returns c =
    record {
      due = index_of_due c.self.inside.dues
          (table_of c.self.inside.timers c.self.inside.next) c.args.now c.args.below
          c.first.result c.self.invariant.agree c.first.ensures.earliest
          ∙ ap (λ (t : TimerTable). due_at t c.args.now c.args.below) c.self.view_is;
    }
