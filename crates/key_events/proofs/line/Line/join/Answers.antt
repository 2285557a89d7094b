-- Serves the clause on the clients that were added.
use Rattle.std.proofs.Common.{◌||◌, ap, sym, ◌∙◌}
use Rattle.std.specs.FinSet as set
use Rattle.key_events.specs.inner.Lines.{LineSet}
use Rattle.key_events.specs.inner.Listing.{is_among}
use Rattle.key_events.proofs.LineSet.{contains-tree, one_added}
use Rattle.key_events.proofs.line.Line.join.Goals as goal

pub loop-client-init : goal.loop-client-init
loop-client-init c = λ q. ap (λ b. set.contains c.args.others.now q || b)
    (ap (is_among q) c.into_iter-client-iterator.ensures.into_iter_gives.0
    ∙ sym (contains-tree c.self.inside.clients q)
    ∙ ap (λ (s : LineSet). set.contains s q) c.self.view_is)

pub loop-client-preserved : goal.loop-client-preserved
loop-client-preserved c = λ q. ap (λ (s : LineSet). set.contains s q || is_among q c.next.new.self)
    c.in_ok-insert.ensures.ok
    ∙ one_added c.loop-client.others c.in-Some.client.now q c.next.new.self
    ∙ ap (λ ks. set.contains c.loop-client.others q || is_among q ks) (sym c.in-Some.ensures.steps)
    ∙ c.loop-client.invariant q
