-- Serves the clauses on the due ticket.
use Rattle.std.proofs.Common.{◌≡◌, false, cond, None, Some, nat_le, sym, ap, ◌∙◌, arith, le-leb}
use Rattle.std.proofs.lemmas.Bool.Decides.{nat_tests}
use Rattle.blocked_tickets.specs.TicketTable.{TicketTable, due_at}
use Rattle.blocked_tickets.specs.inner.Indexed.{table_of}
use Rattle.blocked_tickets.proofs.Found.{first_now, index_of_due}
use Rattle.blocked_tickets.proofs.tickets.Tickets.due.Goals as goal

pub returns-in-Some-clause-due : goal.returns-in-Some-clause-due
returns-in-Some-clause-due c =
    let first = c.in-Some.first in
    let now = c.args.now in
    let table = table_of c.self.inside.held c.self.inside.ready.numbers c.self.inside.next in
    sym (ap (first_now now) c.in-Some.is ∙ ap (λ b. cond b (Some first.ticket) None) (le-leb first.deadline now c.if-first-now.true))
    ∙ index_of_due c.self.inside.deadlines table now c.first.result c.self.invariant.dues c.first.ensures.earliest
    ∙ ap (λ (t : TicketTable). due_at t now) c.self.view_is

pub returns-in_default-clause-due : goal.returns-in_default-clause-due
returns-in_default-clause-due c =
    let first = c.in-Some.first in
    let now = c.args.now in
    let table = table_of c.self.inside.held c.self.inside.ready.numbers c.self.inside.next in
    let later : nat_le first.deadline now ≡ false = grind (arith, nat_tests) in
    sym (ap (first_now now) c.in-Some.is ∙ ap (λ b. cond b (Some first.ticket) None) later)
    ∙ index_of_due c.self.inside.deadlines table now c.first.result c.self.invariant.dues c.first.ensures.earliest
    ∙ ap (λ (t : TicketTable). due_at t now) c.self.view_is

pub returns-in_default-2-clause-due : goal.returns-in_default-2-clause-due
returns-in_default-2-clause-due c =
    let now = c.args.now in
    let table = table_of c.self.inside.held c.self.inside.ready.numbers c.self.inside.next in
    sym (ap (first_now now) c.in_default.is)
    ∙ index_of_due c.self.inside.deadlines table now c.first.result c.self.invariant.dues c.first.ensures.earliest
    ∙ ap (λ (t : TicketTable). due_at t now) c.self.view_is
