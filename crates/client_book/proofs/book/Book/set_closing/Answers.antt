use Rattle.std.proofs.Common.{ap, ◌∙◌, ◌+◌, true, false, None}
use Rattle.client_book.specs.Client.{closes}
use Rattle.client_book.specs.Register.{changes, on_record}
use Rattle.client_book.specs.inner.Entry.{client_of}
use Rattle.client_book.specs.inner.Outbox.{free_at}
use Rattle.client_book.proofs.Changing.{changed, not_absent}
use Rattle.client_book.proofs.book.Book.set_closing.Goals as goal

pub returns : goal.returns
returns c =
    let b = c.self.inside in
    let e = c.in-Some.entry.now in
    let w = record e { closing = true; pending = c.new.result; queue = None; watched = c.replace-watched.new.dest; touched = false } in
    let watched = c.replace-watched.ensures.after ∙ c.new-empty.ensures.none in
    record {
      closing = changed b (c.get_mut.follows.lender w) c.args.client (on_record closes) w c.in-Some.ensures.value (c.get_mut.follows.holds w)
          (λ i. record {
            client = record (client_of e) { closing = true; pending = c.new.ensures.items i; queue = None; watched = watched i; touched = false };
            may = e.outbox.from + free_at b.flushes e.outbox;
          })
          ∙ ap (changes closes c.args.client) c.self.view_is;
    }

pub unreachable-requires : goal.unreachable-requires
unreachable-requires c = not_absent c.self.inside c.args.client c.self.view_is c.in_default.ensures.value c.requires.there
