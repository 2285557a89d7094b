-- Serves the clause on who was found.
use Rattle.std.proofs.Common.{◌||◌, ap, ◌∙◌}
use Rattle.std.specs.Ordering.{nat_cmp}
use Rattle.std.specs.FinSet as set
use Rattle.key_events.specs.inner.Lines.{LineSet, is_found}
use Rattle.key_events.proofs.lines.matching.Goals as goal

pub loop-pattern-init : goal.loop-pattern-init
loop-pattern-init c = λ q.
    ap (λ b. b || is_found c.args.text.now q c.into_iter-pattern-iterator.result)
    (ap (λ (s : LineSet). set.contains s q) c.new-found.ensures.empty ∙ set.contains-empty nat_cmp q)
    ∙ ap (is_found c.args.text.now q) c.into_iter-pattern-iterator.ensures.into_iter_gives.0
