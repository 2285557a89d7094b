-- Serves clause removed of Dues::remove.
use Rattle.std.proofs.Common.{ap, sym, ◌∙◌}
use Rattle.key_store.specs.NextDue.{Due}
use Rattle.key_store.specs.inner.Index.{due_of, taken_out}
use Rattle.key_store.proofs.DueTree.{due_total, due_exact, removed}
use Rattle.key_store.proofs.due.Dues.remove.Goals as goal

pub returns-clause-removed : goal.returns-clause-removed
returns-clause-removed c =
    let due : Due = record { key = c.args.key; moment = c.in-Some.moment } in
    removed due_total due_exact due_of c.self.inside.dues c.remove.new.self due c.args.self.now c.remove.ensures.updates c.self.view_is
    ∙ ap (taken_out c.args.self.now c.args.key) (sym c.in-Some.is)
