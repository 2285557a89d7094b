-- Serves the clause on what is left after an insertion.
use Rattle.std.proofs.Common.{ap, sym, ◌∙◌}
use Rattle.std.specs.FinSet as set
use Rattle.blocked_tickets.specs.declared.deadlines.Due.{Due}
use Rattle.blocked_tickets.specs.inner.Entering.{with_deadline}
use Rattle.blocked_tickets.proofs.Dues.{inserted}
use Rattle.blocked_tickets.proofs.deadlines.Deadlines.insert.Goals as goal

pub returns-in_ok-insert-clause-ok : goal.returns-in_ok-insert-clause-ok
returns-in_ok-insert-clause-ok c =
    let due : Due = record { deadline = c.in-Some.deadline; ticket = c.args.ticket } in
    inserted c.self.inside.dues c.insert.new.self due c.in_ok-insert.ensures.updates
    ∙ ap (λ s. set.insert s due) c.self.view_is ∙ ap (with_deadline c.args.self.now c.args.ticket) (sym c.in-Some.is)
