-- Serves the clauses on what a removal gives and leaves.
use Rattle.std.proofs.Common.{sym, ap, ◌∙◌}
use Rattle.std.specs.FinMap as map
use Rattle.blocked_tickets.proofs.Entries.{get-tree, removed}
use Rattle.blocked_tickets.proofs.table.Table.remove.Goals as goal

pub returns-clause-ticket : goal.returns-clause-ticket
returns-clause-ticket c = c.remove.ensures.value ∙ sym (get-tree c.self.inside.tickets c.args.number) ∙ ap (λ m. map.get m c.args.number) c.self.view_is

pub returns-clause-removed : goal.returns-clause-removed
returns-clause-removed c =
    removed c.self.inside.tickets c.remove.new.self c.args.number c.remove.ensures.updates ∙ ap (λ m. map.remove m c.args.number) c.self.view_is
