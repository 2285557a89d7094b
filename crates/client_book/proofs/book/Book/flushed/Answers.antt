use Rattle.std.proofs.Common.{ap, sym, ◌∙◌}
use Rattle.client_book.specs.Register.{free_of}
use Rattle.client_book.proofs.Changing.{listed-view, free-shown}
use Rattle.client_book.proofs.book.Book.flushed.Goals as goal

pub returns-in-Some : goal.returns-in-Some
returns-in-Some c =
    let shown =
    listed-view c.self.inside c.args.client c.self.view_is c.in-Some.ensures.value in
    record {
      bytes = c.free.ensures.free
          ∙ sym (ap free_of shown ∙ free-shown c.self.inside.flushes c.in-Some.entry.now);
    }

pub returns-in-None : goal.returns-in-None
returns-in-None c =
    let shown =
    listed-view c.self.inside c.args.client c.self.view_is c.in-None.ensures.value in
    record { bytes = sym (ap free_of shown) }
