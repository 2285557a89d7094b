-- Serves the clauses on what a removal gives and leaves.
use Rattle.std.proofs.Common.{sym, ap, ◌∙◌}
use Rattle.std.specs.FinMap as map
use Rattle.key_waiters.proofs.Entries.{get-tree, removed}
use Rattle.key_waiters.proofs.table.Table.remove.Goals as goal

pub returns-clause-key : goal.returns-clause-key
returns-clause-key c = c.remove.ensures.value ∙ sym (get-tree c.self.inside.keys c.args.ticket)
    ∙ ap (λ m. map.get m c.args.ticket) c.self.view_is

pub returns-clause-removed : goal.returns-clause-removed
returns-clause-removed c =
    removed c.self.inside.keys c.remove.new.self c.args.ticket c.remove.ensures.updates
    ∙ ap (λ m. map.remove m c.args.ticket) c.self.view_is
