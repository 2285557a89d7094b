use Rattle.std.proofs.Common.{ap, ◌∙◌}
use Rattle.client_book.specs.Register.{roll_of}
use Rattle.client_book.proofs.Changing.{roll-view}
use Rattle.client_book.proofs.book.Book.picture.Goals as goal

pub returns : goal.returns
returns c = record {
  same = ap (λ clients. record { clients = clients; last = c.self.inside.last }) (roll-view c.self.inside c.in_ok-copy_records.field-0.items c.in_ok-copy_records.ensures.same)
      ∙ ap roll_of c.self.view_is;
}
