-- Serves the room for a ready ticket, and the invariant after an unblock.
use Rattle.std.proofs.Common.{◌≡◌, None, sym, ap, refl, ◌∙◌, arith}
use Rattle.std.specs.Option.{option_and_then}
use Rattle.blocked_tickets.specs.declared.ticket.Ticket.{Ticket}
use Rattle.blocked_tickets.specs.Ticket.{open_deadline}
use Rattle.blocked_tickets.specs.TicketTable.{deadline_of, unblocked}
use Rattle.blocked_tickets.specs.inner.Indexed.{table_of}
use Rattle.blocked_tickets.specs.inner.Entering.{without_deadline}
use Rattle.blocked_tickets.proofs.Indexes.{moved, indexed_unblocked}
use Rattle.blocked_tickets.proofs.Places.{nothing, ready_below}
use Rattle.blocked_tickets.proofs.tickets.Tickets.unblock.Goals as goal

pub push-requires : goal.push-requires
push-requires c =
    let table = table_of c.self.inside.held c.self.inside.ready.numbers c.self.inside.next in
    let n = c.args.ticket in
    let held = c.in-Some.ensures.ticket in
    let none : c.in-Some.held.now.payload ≡ None = nothing c.in-Some.held.now.payload (sym c.is_some.ensures ∙ c.if-is_some.false) in
    let below = ready_below table n c.in-Some.held.now c.self.invariant.kept (sym held) (ap (option_and_then (λ (t : Ticket). t.payload)) (sym held) ∙ none) in
    let places = c.self.invariant.places in
    omega arith

pub invariant_of-self : goal.invariant_of-self
invariant_of-self c =
    let table = table_of c.self.inside.held c.self.inside.ready.numbers c.self.inside.next in
    let n = c.args.ticket in
    let now = c.self.inside in
    let held = c.in-Some.ensures.ticket in
    let none : c.in-Some.held.now.payload ≡ None = nothing c.in-Some.held.now.payload (sym c.is_some.ensures ∙ c.if-is_some.false) in
    moved now.waiters now.waiters (without_deadline now.deadlines n (deadline_of table n)) c.remove.new.self
    now.ready.room c.push.new.self.room (unblocked table n c.args.payload) (record { held = c.give_payload.new.self; ready = c.push.new.self.numbers; next = now.next })
    refl
    (c.remove.ensures.removed ∙ ap (without_deadline now.deadlines n) (c.open_deadline.ensures.deadline ∙ ap (option_and_then open_deadline) held))
    (let room = c.push.ensures.room in omega arith)
    (λ i. record { held = c.give_payload.ensures.given i; ready = c.push.ensures.last i; next = now.next })
    (indexed_unblocked now.waiters now.deadlines now.ready.room table n c.args.payload c.in-Some.held.now c.self.invariant (sym held) none)
