-- Serves the clause that the first ready ticket is held with a payload.
use Rattle.std.proofs.Common.{subst, IsSome}
use Rattle.std.specs.Option.{IfSome}
use Rattle.blocked_tickets.specs.TicketTable.{TicketTable, payload_of}
use Rattle.blocked_tickets.proofs.Places.{first_held}
use Rattle.blocked_tickets.proofs.tickets.Tickets.next_ready.Goals as goal

pub returns-clause-held : goal.returns-clause-held
returns-clause-held c =
    subst (λ (t : TicketTable). IfSome c.first.result (λ n. IsSome (payload_of t n))) c.self.view_is
    (rw c.first.ensures.first (first_held _ c.self.invariant.kept))
