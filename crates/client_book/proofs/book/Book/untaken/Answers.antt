use Rattle.std.proofs.Common.{ap, sym, ◌∙◌, length}
use Rattle.client_book.specs.Register.{told_of}
use Rattle.client_book.proofs.Changing.{listed-view}
use Rattle.client_book.proofs.book.Book.untaken.Goals as goal

pub returns-in-Some : goal.returns-in-Some
returns-in-Some c = record {
  bytes = c.untaken.ensures.untaken ∙ sym (ap (λ o. length (told_of o)) (listed-view c.self.inside c.args.client c.self.view_is c.in-Some.ensures.value));
}

pub returns-in-None : goal.returns-in-None
returns-in-None c = record { bytes = sym (ap (λ o. length (told_of o)) (listed-view c.self.inside c.args.client c.self.view_is c.in-None.ensures.value)) }
