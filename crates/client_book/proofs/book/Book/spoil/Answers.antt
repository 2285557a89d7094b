use Rattle.std.proofs.Common.{ap, ◌∙◌}
use Rattle.client_book.specs.Client.{spoils_queue}
use Rattle.client_book.specs.Register.{changes, on_record}
use Rattle.client_book.specs.inner.Entry.{shown}
use Rattle.client_book.proofs.Changing.{changed, not_absent_queue}
use Rattle.client_book.proofs.book.Book.spoil.Goals as goal

pub returns : goal.returns
returns c =
    let b = c.self.inside in
    let e = c.in-Some.entry.now in
    let w = record e { queue = c.spoil.new.queue } in
    record {
      spoiled = changed b (c.get_mut.follows.lender w) c.args.client (on_record spoils_queue) w c.in-Some.ensures.value (c.get_mut.follows.holds w)
          (ap (λ queue. shown b.flushes (record e { queue = queue })) c.spoil.ensures.spoiled)
          ∙ ap (changes spoils_queue c.args.client) c.self.view_is;
    }

pub unreachable-requires : goal.unreachable-requires
unreachable-requires c = not_absent_queue c.self.inside c.args.client c.self.view_is c.in_default.ensures.value c.requires.begun
