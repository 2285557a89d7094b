-- Serves the clauses on the ticket that is gone.
use Rattle.std.proofs.Common.{sym, ap, subst, ◌∙◌}
use Rattle.std.specs.Option.{option_map_or}
use Rattle.blocked_tickets.specs.declared.ticket.Phase.TheVariants.{Gone}
use Rattle.blocked_tickets.specs.Kept.{Kept}
use Rattle.blocked_tickets.specs.Ticket.{turned}
use Rattle.blocked_tickets.specs.TicketTable.{TicketTable, ticket_of, changed}
use Rattle.blocked_tickets.specs.inner.Indexed.{table_of}
use Rattle.blocked_tickets.proofs.Found.{index_of_client, gone_waits_no_more}
use Rattle.blocked_tickets.proofs.tickets.Tickets.gone.Goals as goal

pub returns-clause-ticket : goal.returns-clause-ticket
returns-clause-ticket c =
    let table = table_of c.self.inside.held c.self.inside.ready.numbers c.self.inside.next in
    sym c.in-Some.is ∙ c.get.ensures.ticket ∙ index_of_client c.self.inside.waiters table c.args.client c.self.invariant.clients
    ∙ ap (λ (t : TicketTable). ticket_of t c.args.client) c.self.view_is

pub returns-in_default-clause-ticket : goal.returns-in_default-clause-ticket
returns-in_default-clause-ticket c =
    let table = table_of c.self.inside.held c.self.inside.ready.numbers c.self.inside.next in
    sym c.in_default.is ∙ c.get.ensures.ticket ∙ index_of_client c.self.inside.waiters table c.args.client c.self.invariant.clients
    ∙ ap (λ (t : TicketTable). ticket_of t c.args.client) c.self.view_is

pub returns-in_default-clause-gone : goal.returns-in_default-clause-gone
returns-in_default-clause-gone c =
    let table = c.args.self.now in
    ap (λ o. option_map_or (λ n. changed table n (turned Gone)) o table) (returns-in_default-clause-ticket c)

pub returns-clause-gone : goal.returns-clause-gone
returns-clause-gone c =
    let table = c.args.self.now in
    c.end_wait.ensures.turned ∙ ap (λ o. option_map_or (λ n. changed table n (turned Gone)) o table) (returns-clause-ticket c)

pub returns-in_default-clause-waits_no_more : goal.returns-in_default-clause-waits_no_more
returns-in_default-clause-waits_no_more c = sym (returns-in_default-clause-ticket c)

pub returns-clause-waits_no_more : goal.returns-clause-waits_no_more
returns-clause-waits_no_more c =
    let kept = subst Kept c.self.view_is c.self.invariant.kept in
    ap (λ (t : TicketTable). ticket_of t c.args.client) (returns-clause-gone c) ∙ gone_waits_no_more c.args.self.now c.args.client kept
