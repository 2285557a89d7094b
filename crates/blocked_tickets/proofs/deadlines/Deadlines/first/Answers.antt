-- Serves the clause on the earliest deadline.
use Rattle.std.proofs.Common.{subst}
use Rattle.std.specs.Option.{option_copied}
use Rattle.blocked_tickets.specs.inner.Earliest.{IsEarliest}
use Rattle.blocked_tickets.proofs.Dues.{earliest}
use Rattle.blocked_tickets.proofs.deadlines.Deadlines.first.Goals as goal

pub returns : goal.returns
returns c =
    let first = c.first.ensures in
    record {
      earliest = rw c.copied.ensures (subst (λ dues. IsEarliest dues (option_copied c.first.result)) c.self.view_is (earliest c.self.inside.dues c.first.result first.variant first.member first.least));
    }
