-- Serves the law on the ticket of a client.
use Rattle.blocked_tickets.proofs.Found.{ticket_of_client}
use Rattle.blocked_tickets.proofs.laws.the_ticket_of_a_client_is_its_waiting_one.Goals as goal

pub returns : goal.returns
returns c = ticket_of_client
