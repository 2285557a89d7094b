-- Serves the clause on the earliest.
use Rattle.std.proofs.Common.{sym, subst}
use Rattle.module_timers.specs.inner.Earliest.{IsEarliest}
use Rattle.module_timers.proofs.Earliest.{earliest}
use Rattle.module_timers.proofs.dues.Dues.first.Goals as goal

pub returns : goal.returns
returns c = record {
  earliest = subst (λ s. IsEarliest s c.args.now c.args.below c.first_come.result) c.self.view_is
      (subst (IsEarliest _ c.args.now c.args.below) (sym c.first_come.ensures.first)
      (earliest c.self.inside.dues c.args.now c.args.below c.first_come.ensures.ordered));
}
