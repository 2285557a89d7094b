-- Serves the clause on what is left after a removal.
use Rattle.std.proofs.Common.{ap, ◌∙◌}
use Rattle.std.specs.FinSet as set
use Rattle.key_events.proofs.LineSet.{removed}
use Rattle.key_events.proofs.line.Line.remove.Goals as goal

pub returns : goal.returns
returns c =
    record {
      removed = removed c.self.inside.clients c.remove.new.self c.args.client
          c.remove.ensures.updates ∙ ap (λ s. set.remove s c.args.client) c.self.view_is;
    }
