-- Serves the clause on what is left after a removal.
use Rattle.std.proofs.Common.{ap, ◌∙◌}
use Rattle.std.specs.FinSet as set
use Rattle.key_waiters.proofs.LineSet.{removed}
use Rattle.key_waiters.proofs.line.Line.remove.Goals as goal

pub returns : goal.returns
returns c =
    record {
      removed = removed c.self.inside.tickets c.remove.new.self c.args.ticket
          c.remove.ensures.updates ∙ ap (λ s. set.remove s c.args.ticket) c.self.view_is;
    }
