-- Serves clause earliest of Dues::first.
use Rattle.key_store.specs.inner.Index.{due_of}
use Rattle.key_store.proofs.DueTree.{earliest}
use Rattle.key_store.proofs.due.Dues.first.Goals as goal

pub returns : goal.returns
returns c =
    let first = c.first.ensures in
    record {
      earliest = earliest due_of c.self.inside.dues c.first.result c.args.self.now first.variant first.member first.all_from c.self.view_is;
    }
