use Rattle.std.proofs.Common.{ap, sym}
use Rattle.client_book.specs.Register.{ticket_of}
use Rattle.client_book.proofs.Changing.{listed-view}
use Rattle.client_book.proofs.book.Book.waiting.Goals as goal

pub returns-in-Some : goal.returns-in-Some
returns-in-Some c = record { ticket = sym (ap ticket_of (listed-view c.self.inside c.args.client c.self.view_is c.in-Some.ensures.value)) }

pub returns-in-None : goal.returns-in-None
returns-in-None c = record { ticket = sym (ap ticket_of (listed-view c.self.inside c.args.client c.self.view_is c.in-None.ensures.value)) }
