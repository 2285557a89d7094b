use Rattle.std.proofs.Common.{ap}
use Rattle.client_book.proofs.Changing.{empty-view}
use Rattle.client_book.proofs.book.Book.new.Goals as goal

pub returns : goal.returns
returns c = record { nobody = ap (λ clients. record { clients = clients; last = 0 }) (empty-view 0 c.new.result c.new.ensures.empty) }
