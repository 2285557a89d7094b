-- Serves the clause on whether nobody is there.
use Rattle.std.proofs.Common.{◌==◌, ap, sym, ◌∙◌}
use Rattle.std.specs.FinSet as set
use Rattle.key_events.proofs.LineSet.{len-sorted}
use Rattle.key_events.proofs.line.Line.is_empty.Goals as goal

pub returns : goal.returns
returns c =
    record {
      empty = ap (λ n. n == 0)
          (c.len.ensures.len ∙ sym (len-sorted c.self.inside.clients.keys c.len.ensures.ordered)
          ∙ ap set.len c.self.view_is);
    }
