-- Serves the clause on what a look-up gives.
use Rattle.std.proofs.Common.{sym, ap, ◌∙◌}
use Rattle.std.specs.FinMap as map
use Rattle.blocked_tickets.proofs.Entries.{get-tree}
use Rattle.blocked_tickets.proofs.waiters.Waiters.get.Goals as goal

pub returns : goal.returns
returns c = record { ticket = c.copied.ensures ∙ c.get.ensures.value ∙ sym (get-tree c.self.inside.tickets c.args.client) ∙ ap (λ m. map.get m c.args.client) c.self.view_is }
