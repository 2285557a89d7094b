-- Serves the law on the due ticket.
use Rattle.blocked_tickets.proofs.Found.{first_is_due}
use Rattle.blocked_tickets.proofs.laws.the_first_is_due.Goals as goal

pub returns : goal.returns
returns c = first_is_due
