-- Serves the clause on the list of the clients.
use Rattle.std.proofs.Common.{subst}
use Rattle.std.specs.FinSet as set
use Rattle.std.proofs.lemmas.Result.{IfOk-weaker}
use Rattle.key_events.specs.inner.Lines.{LineSet}
use Rattle.key_events.specs.inner.Listing.{Lists}
use Rattle.key_events.proofs.LineSet.{listed}
use Rattle.key_events.proofs.line.Line.copy.Goals as goal

pub returns : goal.returns
returns c = record {
  lists = IfOk-weaker c.copied.result _ _
      (λ copies is. subst (λ (s : LineSet). Lists copies.items (set.contains s)) c.self.view_is
      (listed c.self.inside.clients copies.items c.copied.ensures.ordered is))
      c.copied.ensures.same;
}
