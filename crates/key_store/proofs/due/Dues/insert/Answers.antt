-- Serves clause ok of Dues::insert.
use Rattle.std.proofs.Common.{ap, sym, ◌∙◌}
use Rattle.std.specs.FinSet as set
use Rattle.key_store.specs.NextDue.{Due}
use Rattle.key_store.specs.inner.Index.{due_of, entered}
use Rattle.key_store.proofs.DueTree.{due_total, due_exact, inserted}
use Rattle.key_store.proofs.due.Dues.insert.Goals as goal

pub returns-in_ok-insert-clause-ok : goal.returns-in_ok-insert-clause-ok
returns-in_ok-insert-clause-ok c =
    let due : Due = record { key = c.in_ok-key.key; moment = c.in-Some.moment } in
    inserted due_total due_exact due_of c.self.inside.dues c.insert.new.self due c.args.self.now c.in_ok-insert.ensures.updates c.self.view_is
    ∙ ap (λ key. set.insert c.args.self.now (record { key = key; moment = c.in-Some.moment })) c.in_ok-key.ensures.bytes
    ∙ ap (entered c.args.self.now c.args.key.now) (sym c.in-Some.is)
