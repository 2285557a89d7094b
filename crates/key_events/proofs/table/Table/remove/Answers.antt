-- Serves the clauses on what a removal gives and leaves.
use Rattle.std.proofs.Common.{sym, ap, ◌∙◌}
use Rattle.std.specs.FinMap as map
use Rattle.key_events.proofs.Entries.{get-tree, removed}
use Rattle.key_events.proofs.table.Table.remove.Goals as goal

pub returns-clause-names : goal.returns-clause-names
returns-clause-names c = c.remove.ensures.value ∙ sym (get-tree c.self.inside.clients c.args.client)
    ∙ ap (λ m. map.get m c.args.client) c.self.view_is

pub returns-clause-removed : goal.returns-clause-removed
returns-clause-removed c =
    removed c.self.inside.clients c.remove.new.self c.args.client c.remove.ensures.updates
    ∙ ap (λ m. map.remove m c.args.client) c.self.view_is
