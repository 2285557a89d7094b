-- Serves the clause on the copies.
use Rattle.std.proofs.Common.{ap, sym, ◌∙◌}
use Rattle.std.specs.FinMap as map
use Rattle.std.proofs.lemmas.Result.{IfOk-weaker}
use Rattle.module_timers.proofs.Entries.{entries-sorted}
use Rattle.module_timers.proofs.table.Table.copy.Goals as goal

pub returns : goal.returns
returns c = record {
  same = IfOk-weaker c.copied.result _ _
      (λ copies is. is ∙ sym
      (entries-sorted c.self.inside.timers.entries c.copied.ensures.ordered)
      ∙ ap map.entries c.self.view_is)
      c.copied.ensures.same;
}
