-- Serves the clause on what stands there after an insertion.
use Rattle.std.proofs.Common.{ap, ◌∙◌}
use Rattle.std.specs.FinSet as set
use Rattle.key_events.proofs.LineSet.{inserted}
use Rattle.key_events.proofs.line.Line.insert.Goals as goal

pub returns-clause-ok : goal.returns-clause-ok
returns-clause-ok c =
    inserted c.self.inside.clients c.insert.new.self c.args.client
    c.in_ok-insert.ensures.updates ∙ ap (λ s. set.insert s c.args.client) c.self.view_is
