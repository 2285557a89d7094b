-- Serves the clause on the first above a number.
use Rattle.std.proofs.Common.{sym, subst}
use Rattle.std.specs.FinSet as set
use Rattle.key_waiters.specs.inner.Lines.{LineSet}
use Rattle.key_waiters.specs.inner.Places.{IsFirstOf}
use Rattle.key_waiters.proofs.LineSet.{first_above}
use Rattle.key_waiters.proofs.line.Line.first.Goals as goal

pub returns : goal.returns
returns c = record {
  first = subst (λ (s : LineSet). IsFirstOf (set.contains s) c.args.above c.copied.result)
      c.self.view_is
      (subst (IsFirstOf _ c.args.above) (sym c.copied.ensures)
      (first_above c.self.inside.tickets c.args.above c.range.result c.next.new.self
      c.next.result (c.range.ensures.in_range tt) c.next.ensures.steps));
}
