use Rattle.std.proofs.Common.{ap, ◌∙◌}
use Rattle.client_book.specs.Register.{joins}
use Rattle.client_book.proofs.Changing.{joined-view}
use Rattle.client_book.proofs.book.Book.join.Goals as goal

pub returns-in-Ok-clause-ok : goal.returns-in-Ok-clause-ok
returns-in-Ok-clause-ok c =
    joined-view c.self.inside c.insert.new.self c.args.client c.new-entry.result c.in-Ok.ensures.updates c.new-entry.ensures.record_of c.new-entry.ensures.outbox
    ∙ ap (joins c.args.client) c.self.view_is
