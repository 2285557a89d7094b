-- Serves the invariant after a ticket was closed.
use Rattle.std.proofs.Common.{◌≡◌, is_some, true, sym, ap, refl, ◌∙◌, arith}
use Rattle.std.specs.Option.{option_and_then}
use Rattle.blocked_tickets.specs.declared.ticket.Ticket.{Ticket}
use Rattle.blocked_tickets.specs.Ticket.{waiter}
use Rattle.blocked_tickets.specs.TicketTable.{TicketTable, waiter_of, payload_of, closed}
use Rattle.blocked_tickets.specs.inner.Indexed.{table_of}
use Rattle.blocked_tickets.specs.inner.Entering.{without_client}
use Rattle.blocked_tickets.proofs.Indexes.{moved, indexed_closed}
use Rattle.blocked_tickets.proofs.tickets.Tickets.close.Goals as goal

pub invariant_of-self : goal.invariant_of-self
invariant_of-self c =
    let table = table_of c.self.inside.held c.self.inside.ready.numbers c.self.inside.next in
    let n = c.args.ticket in
    let now = c.self.inside in
    let held = c.in-Some.ensures.ticket in
    let payload : is_some c.in-Some.held.payload ≡ true =
    ap (λ o. is_some (option_and_then (λ (t : Ticket). t.payload) o)) held ∙ ap (λ (t : TicketTable). is_some (payload_of t n)) c.self.view_is ∙ c.requires in
    moved (without_client now.waiters (waiter_of table n)) c.remove-2.new.self now.deadlines now.deadlines
    now.ready.room c.remove-3.new.self.room (closed table n) (record { held = c.remove.new.self; ready = c.remove-3.new.self.numbers; next = now.next })
    (c.remove-2.ensures.removed ∙ ap (without_client now.waiters) (c.waiter.ensures.waiter ∙ ap (option_and_then waiter) held))
    refl
    (let room = c.remove-3.ensures.room in omega arith)
    (λ i. record { held = c.remove.ensures.removed i; ready = c.remove-3.ensures.left i; next = now.next })
    (indexed_closed now.waiters now.deadlines now.ready.room table n c.in-Some.held c.self.invariant (sym held) payload)
