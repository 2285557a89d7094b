use Rattle.std.proofs.Common.{ap, ◌∙◌, false}
use Rattle.client_book.specs.Client.{unwatches}
use Rattle.client_book.specs.Register.{changes, on_record}
use Rattle.client_book.specs.inner.Entry.{shown}
use Rattle.client_book.proofs.Changing.{changed, not_absent}
use Rattle.client_book.proofs.book.Book.unwatch.Goals as goal

pub returns : goal.returns
returns c =
    let b = c.self.inside in
    let e = c.in-Some.entry.now in
    let w = record e { watched = c.replace-watched.new.dest; touched = false } in
    record {
      unwatched = changed b (c.get_mut.follows.lender w) c.args.client (on_record unwatches) w c.in-Some.ensures.value (c.get_mut.follows.holds w)
          (ap (λ watched. shown b.flushes (record e { watched = watched; touched = false })) (c.replace-watched.ensures.after ∙ c.new-empty.ensures.none))
          ∙ ap (changes unwatches c.args.client) c.self.view_is;
    }

pub unreachable-requires : goal.unreachable-requires
unreachable-requires c = not_absent c.self.inside c.args.client c.self.view_is c.in_default.ensures.value c.requires.there
