-- Serves the invariant after a wait has ended.
use Rattle.std.proofs.Common.{sym, ap, ◌∙◌, arith}
use Rattle.std.specs.Option.{option_and_then}
use Rattle.blocked_tickets.specs.Ticket.{turned, waiter, open_deadline}
use Rattle.blocked_tickets.specs.TicketTable.{waiter_of, deadline_of, changed}
use Rattle.blocked_tickets.specs.inner.Indexed.{table_of}
use Rattle.blocked_tickets.specs.inner.Entering.{without_deadline, without_client}
use Rattle.blocked_tickets.proofs.Indexes.{moved, indexed_turned}
use Rattle.blocked_tickets.proofs.tickets.Tickets.end_wait.Goals as goal

pub invariant_of-self : goal.invariant_of-self
invariant_of-self c =
    let table = table_of c.self.inside.held c.self.inside.ready.numbers c.self.inside.next in
    let n = c.args.ticket in
    let now = c.self.inside in
    let held = c.in-Some.ensures.ticket in
    moved (without_client now.waiters (waiter_of table n)) c.remove-2.new.self (without_deadline now.deadlines n (deadline_of table n)) c.remove.new.self
    now.ready.room now.ready.room (changed table n (turned c.args.phase)) (record { held = c.turn.new.self; ready = now.ready.numbers; next = now.next })
    (c.remove-2.ensures.removed ∙ ap (without_client now.waiters) (c.waiter.ensures.waiter ∙ ap (option_and_then waiter) held))
    (c.remove.ensures.removed ∙ ap (without_deadline now.deadlines n) (c.open_deadline.ensures.deadline ∙ ap (option_and_then open_deadline) held))
    (omega arith)
    (λ i. record { held = c.turn.ensures.turned i; ready = now.ready.numbers; next = now.next })
    (indexed_turned now.waiters now.deadlines now.ready.room table n c.args.phase c.in-Some.held.now c.self.invariant (sym held) c.requires.ends)
