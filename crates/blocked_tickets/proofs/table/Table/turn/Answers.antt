-- Serves the clause on what is held after a turn to another phase.
use Rattle.std.proofs.Common.{ap, ◌∙◌}
use Rattle.blocked_tickets.specs.Ticket.{turned}
use Rattle.blocked_tickets.specs.TicketTable.{with_changed}
use Rattle.blocked_tickets.proofs.Entries.{rewritten}
use Rattle.blocked_tickets.proofs.table.Table.turn.Goals as goal

pub returns : goal.returns
returns c = record {
  turned = rewritten c.self.inside.tickets c.turn.new.tickets c.args.number (turned c.args.phase) c.turn.ensures
      ∙ ap (λ m. with_changed m c.args.number (turned c.args.phase)) c.self.view_is;
}
