-- Serves the clause on how many tickets are held.
use Rattle.std.proofs.Common.{sym, ap, ◌∙◌}
use Rattle.std.specs.FinMap as map
use Rattle.module_timers.proofs.Entries.{len-sorted}
use Rattle.module_timers.proofs.table.Table.len.Goals as goal

pub returns : goal.returns
returns c = record {
  length = c.len.ensures.len
      ∙ sym (len-sorted c.self.inside.timers.entries c.len.ensures.ordered)
      ∙ ap map.len c.self.view_is;
}
