use Rattle.std.proofs.Common.{ap, ◌∙◌}
use Rattle.client_book.specs.Register.{frees_all}
use Rattle.client_book.proofs.Changing.{flushed-view}
use Rattle.client_book.proofs.book.Book.flush.Goals as goal

pub returns : goal.returns
returns c = record {
  freed = flushed-view c.self.inside c.saturating_add-self-inside.result c.saturating_add-self-inside.ensures c.self.invariant ∙ ap frees_all c.self.view_is;
}
