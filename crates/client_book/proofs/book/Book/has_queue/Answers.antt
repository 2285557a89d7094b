use Rattle.std.proofs.Common.{ap, sym, ◌∙◌, is_some}
use Rattle.client_book.specs.Register.{queue_of}
use Rattle.client_book.proofs.Changing.{listed-view}
use Rattle.client_book.proofs.book.Book.has_queue.Goals as goal

pub returns-in-Some : goal.returns-in-Some
returns-in-Some c = record {
  queue = c.is_some.ensures ∙ sym (ap (λ o. is_some (queue_of o)) (listed-view c.self.inside c.args.client c.self.view_is c.in-Some.ensures.value));
}

pub returns-in-None : goal.returns-in-None
returns-in-None c = record { queue = sym (ap (λ o. is_some (queue_of o)) (listed-view c.self.inside c.args.client c.self.view_is c.in-None.ensures.value)) }
