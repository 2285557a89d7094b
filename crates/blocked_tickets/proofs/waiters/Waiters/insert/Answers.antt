-- Serves the clause on what is left after an insertion.
use Rattle.std.proofs.Common.{ap, ◌∙◌}
use Rattle.std.specs.FinMap as map
use Rattle.blocked_tickets.proofs.Entries.{inserted}
use Rattle.blocked_tickets.proofs.waiters.Waiters.insert.Goals as goal

pub returns-clause-ok : goal.returns-clause-ok
returns-clause-ok c =
    inserted c.self.inside.tickets c.insert.new.self c.args.client c.args.ticket c.in_ok-insert.ensures.updates
    ∙ ap (λ m. map.insert m c.args.client c.args.ticket) c.self.view_is
