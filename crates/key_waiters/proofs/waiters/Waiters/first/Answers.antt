-- Serves the clause on the first ticket of a key.
use Rattle.std.proofs.Common.{ap, ◌∙◌}
use Rattle.key_waiters.specs.Waiting.{Waiting, first_at}
use Rattle.key_waiters.proofs.First.{index_of_first}
use Rattle.key_waiters.proofs.waiters.Waiters.first.Goals as goal

pub returns : goal.returns
returns c = record {
  first = index_of_first c.self.inside.table c.self.inside.lines c.args.key.now c.args.above
      c.first.result c.self.invariant c.first.ensures.first
      ∙ ap (λ (m : Waiting). first_at m c.args.key.now c.args.above) c.self.view_is;
}
