-- Serves the clause on the clients that have a name which matches.
use Rattle.std.proofs.Common.{subst}
use Rattle.std.proofs.lemmas.Result.{IfOk-weaker}
use Rattle.key_events.specs.Rolls.{RollMap}
use Rattle.key_events.specs.inner.Listing.{FindsIn}
use Rattle.key_events.proofs.Agreeing.{finds_in}
use Rattle.key_events.proofs.roll.Roll.matching.Goals as goal

pub returns : goal.returns
returns c = record {
  finds = IfOk-weaker c.matching.result _ _
      (λ clients finds. subst (λ (m : RollMap). FindsIn clients.items m c.args.text.now)
      c.self.view_is
      (finds_in c.self.inside.table c.self.inside.lines c.args.text.now clients.items
      c.self.invariant finds))
      c.matching.ensures.finds;
}
