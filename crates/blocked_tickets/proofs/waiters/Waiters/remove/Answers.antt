-- Serves the clause on what is left after a removal.
use Rattle.std.proofs.Common.{ap, ◌∙◌, sym}
use Rattle.std.specs.FinMap as map
use Rattle.blocked_tickets.specs.inner.Entering.{without_client}
use Rattle.blocked_tickets.proofs.Entries.{removed}
use Rattle.blocked_tickets.proofs.waiters.Waiters.remove.Goals as goal

pub returns-in-Some : goal.returns-in-Some
returns-in-Some c = record {
  removed = removed c.self.inside.tickets c.remove.new.self c.in-Some.client c.remove.ensures.updates
      ∙ ap (λ m. map.remove m c.in-Some.client) c.self.view_is ∙ ap (without_client c.args.self.now) (sym c.in-Some.is);
}
