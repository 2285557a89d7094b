-- Serves the clause on what is held after a payload was given.
use Rattle.std.proofs.Common.{ap, ◌∙◌}
use Rattle.blocked_tickets.specs.Ticket.{with_payload}
use Rattle.blocked_tickets.specs.TicketTable.{with_changed}
use Rattle.blocked_tickets.proofs.Entries.{rewritten}
use Rattle.blocked_tickets.proofs.table.Table.give_payload.Goals as goal

pub returns : goal.returns
returns c = record {
  given = rewritten c.self.inside.tickets c.give_payload.new.tickets c.args.number (with_payload c.args.payload) c.give_payload.ensures
      ∙ ap (λ m. with_changed m c.args.number (with_payload c.args.payload)) c.self.view_is;
}
