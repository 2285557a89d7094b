-- Serves the clause on what stands there after an insertion.
use Rattle.std.proofs.Common.{ap, ◌∙◌}
use Rattle.std.specs.FinSet as set
use Rattle.key_waiters.proofs.LineSet.{inserted}
use Rattle.key_waiters.proofs.line.Line.insert.Goals as goal

pub returns-clause-ok : goal.returns-clause-ok
returns-clause-ok c =
    inserted c.self.inside.tickets c.insert.new.self c.args.ticket
    c.in_ok-insert.ensures.updates ∙ ap (λ s. set.insert s c.args.ticket) c.self.view_is
