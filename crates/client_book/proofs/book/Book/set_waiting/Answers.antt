use Rattle.std.proofs.Common.{refl, ap, ◌∙◌}
use Rattle.client_book.specs.Client.{waits_for}
use Rattle.client_book.specs.Register.{changes, on_record}
use Rattle.client_book.proofs.Changing.{changed, not_absent}
use Rattle.client_book.proofs.book.Book.set_waiting.Goals as goal

pub returns : goal.returns
returns c =
    let w = record c.in-Some.entry.now { waiting = c.args.ticket } in
    record {
      waits = changed c.self.inside (c.get_mut.follows.lender w) c.args.client (on_record (waits_for c.args.ticket)) w c.in-Some.ensures.value (c.get_mut.follows.holds w) refl
          ∙ ap (changes (waits_for c.args.ticket) c.args.client) c.self.view_is;
    }

pub unreachable-requires : goal.unreachable-requires
unreachable-requires c = not_absent c.self.inside c.args.client c.self.view_is c.in_default.ensures.value c.requires.there
