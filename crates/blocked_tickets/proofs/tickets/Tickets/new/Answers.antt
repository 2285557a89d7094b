-- Serves the invariant of the tickets that are new.
use Rattle.blocked_tickets.proofs.Indexes.{indexed_new}
use Rattle.blocked_tickets.proofs.tickets.Tickets.new.Goals as goal

pub invariant_of-result : goal.invariant_of-result
invariant_of-result c = rw (c.new.ensures.empty, c.new-2.ensures.empty, c.new-3.ensures.empty, c.new-4.ensures.empty) (indexed_new c.new-4.result.room)
