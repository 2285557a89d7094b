-- Serves the clause on what is left after a removal.
use Rattle.std.proofs.Common.{ap, sym, ◌∙◌}
use Rattle.std.specs.FinSet as set
use Rattle.blocked_tickets.specs.declared.deadlines.Due.{Due}
use Rattle.blocked_tickets.specs.inner.Entering.{without_deadline}
use Rattle.blocked_tickets.proofs.Dues.{removed}
use Rattle.blocked_tickets.proofs.deadlines.Deadlines.remove.Goals as goal

pub returns-in-Some : goal.returns-in-Some
returns-in-Some c =
    let due : Due = record { deadline = c.in-Some.deadline; ticket = c.args.ticket } in
    record {
      removed = removed c.self.inside.dues c.remove.new.self due c.remove.ensures.updates
          ∙ ap (λ s. set.remove s due) c.self.view_is ∙ ap (without_deadline c.args.self.now c.args.ticket) (sym c.in-Some.is);
    }
