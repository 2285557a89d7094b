use Rattle.std.proofs.Common.{ap, ◌∙◌}
use Rattle.client_book.specs.Register.{leaves}
use Rattle.client_book.proofs.Changing.{left-view}
use Rattle.client_book.proofs.book.Book.drop_client.Goals as goal

pub returns-in-Some : goal.returns-in-Some
returns-in-Some c = record { gone = left-view c.self.inside c.remove.new.self c.args.client c.remove.ensures.updates ∙ ap (leaves c.args.client) c.self.view_is }

pub returns-in_default : goal.returns-in_default
returns-in_default c = record { gone = left-view c.self.inside c.remove.new.self c.args.client c.remove.ensures.updates ∙ ap (leaves c.args.client) c.self.view_is }
