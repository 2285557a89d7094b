-- Serves what `enter` needs, and the invariant after a ticket was admitted or refused.
use Rattle.std.proofs.Common.{◌≡◌, ◌+◌, ◌≤◌, None, sym, ap, refl, ◌∙◌, arith}
use Rattle.std.specs.Option.{option_and_then}
use Rattle.std.specs.FinMap as map
use Rattle.blocked_tickets.specs.declared.ticket.Ticket.{Ticket}
use Rattle.blocked_tickets.specs.Outcomes.{CanAdmit}
use Rattle.blocked_tickets.specs.Ticket.{new_ticket, open_deadline}
use Rattle.blocked_tickets.specs.TicketTable.{TicketTable, ticket_of, admitted}
use Rattle.blocked_tickets.specs.inner.Indexed.{table_of}
use Rattle.blocked_tickets.specs.inner.Entering.{with_deadline, without_deadline}
use Rattle.blocked_tickets.proofs.Agree.{deadline_put_and_taken}
use Rattle.blocked_tickets.proofs.Found.{index_of_client}
use Rattle.blocked_tickets.proofs.Indexes.{moved, indexed_admitted}
use Rattle.blocked_tickets.proofs.Keeps.{next_free}
use Rattle.blocked_tickets.proofs.Places.{on_ok}
use Rattle.blocked_tickets.proofs.Shown.{put_and_taken}
use Rattle.blocked_tickets.proofs.tickets.Tickets.admit.Goals as goal

pub enter-requires : goal.enter-requires
enter-requires c =
    let table = table_of c.self.inside.held c.self.inside.ready.numbers c.self.inside.next in
    index_of_client c.self.inside.waiters table c.args.client c.self.invariant.clients ∙ ap (λ (t : TicketTable). ticket_of t c.args.client) c.self.view_is ∙ c.requires

pub invariant_of-self-in-Err : goal.invariant_of-self-in-Err
invariant_of-self-in-Err c =
    let table = table_of c.self.inside.held c.self.inside.ready.numbers c.self.inside.next in
    let now = c.self.inside in
    let client = c.args.client in
    let deadline = c.args.deadline in
    let no_ticket : map.get now.waiters client ≡ None =
    index_of_client now.waiters table client c.self.invariant.clients ∙ ap (λ (t : TicketTable). ticket_of t client) c.self.view_is ∙ c.requires in
    let done = sym c.is_err-2.ensures.value ∙ c.if-is_err-2.false in
    let waits : c.enter.new.waiters ≡ map.insert now.waiters client now.next = on_ok c.enter.result _ done c.enter.ensures.waits in
    let due : c.enter.new.deadlines ≡ with_deadline now.deadlines now.next deadline = on_ok c.enter.result _ done c.enter.ensures.due in
    let free = ap (option_and_then open_deadline) (next_free table c.self.invariant.kept) in
    moved now.waiters c.remove.new.self now.deadlines c.remove-in-Err.new.self
    now.ready.room c.reserve.new.self.room table (record { held = c.insert.new.self; ready = c.reserve.new.self.numbers; next = now.next })
    (c.remove.ensures.removed ∙ ap (λ m. map.remove m client) waits ∙ put_and_taken now.waiters client now.next no_ticket)
    (c.remove-in-Err.ensures.removed ∙ ap (λ s. without_deadline s now.next deadline) due ∙ deadline_put_and_taken now.deadlines now.next deadline table c.self.invariant.dues free)
    c.reserve.ensures.room
    (λ i. record { held = c.in-Err.ensures.err i; ready = c.reserve.ensures.same i; next = now.next })
    c.self.invariant

pub invariant_of-self-2 : goal.invariant_of-self-2
invariant_of-self-2 c =
    let table = table_of c.self.inside.held c.self.inside.ready.numbers c.self.inside.next in
    let now = c.self.inside in
    let client = c.args.client in
    let deadline = c.args.deadline in
    let ticket : Ticket = new_ticket client c.args.place c.args.job deadline in
    let no_ticket : map.get now.waiters client ≡ None =
    index_of_client now.waiters table client c.self.invariant.clients ∙ ap (λ (t : TicketTable). ticket_of t client) c.self.view_is ∙ c.requires in
    let done = sym c.is_err-2.ensures.value ∙ c.if-is_err-2.false in
    let waits : c.enter.new.waiters ≡ map.insert now.waiters client now.next = on_ok c.enter.result _ done c.enter.ensures.waits in
    let due : c.enter.new.deadlines ≡ with_deadline now.deadlines now.next deadline = on_ok c.enter.result _ done c.enter.ensures.due in
    let room : c.len-2.result + 1 ≤ c.reserve.new.self.room = on_ok c.reserve.result _ (sym c.is_err.ensures.value ∙ c.if-is_err.false) c.reserve.ensures.ok in
    let can : CanAdmit table = (let few = c.if-len-ge-MOST.false in let is = c.len.ensures.length in omega arith, let last = c.if-number.false in let fits = c.self.invariant.kept.next_fits in omega arith) in
    moved (map.insert now.waiters client now.next) c.enter.new.waiters (with_deadline now.deadlines now.next deadline) c.enter.new.deadlines
    c.reserve.new.self.room c.reserve.new.self.room (admitted table ticket) (record { held = c.insert.new.self; ready = c.reserve.new.self.numbers; next = now.next + 1 })
    waits due (omega arith)
    (λ i. record { held = (c.in_default.ensures.ok ∙ ap (map.insert now.held now.next) c.new-ticket.ensures.opened) i; ready = c.reserve.ensures.same i; next = now.next + 1 })
    (indexed_admitted now.waiters now.deadlines c.reserve.new.self.room table ticket
    (moved now.waiters now.waiters now.deadlines now.deadlines now.ready.room c.reserve.new.self.room table table refl refl c.reserve.ensures.room refl c.self.invariant)
    no_ticket can (let is = c.len-2.ensures.length in omega arith) refl)
