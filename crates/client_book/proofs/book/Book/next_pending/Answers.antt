use Rattle.std.proofs.Common.{ap, sym, ◌∙◌, slice_get, ◌+◌}
use Rattle.client_book.specs.Client.{without_first_pending}
use Rattle.client_book.specs.Register.{changes, on_record, pending_of}
use Rattle.client_book.specs.inner.Entry.{client_of}
use Rattle.client_book.specs.inner.Outbox.{free_at}
use Rattle.client_book.proofs.Changing.{changed, not_absent, listed-view, first_of_popped}
use Rattle.client_book.proofs.book.Book.next_pending.Goals as goal

pub unreachable-requires : goal.unreachable-requires
unreachable-requires c = not_absent c.self.inside c.args.client c.self.view_is c.in_default.ensures.value c.requires.there

pub returns-clause-item : goal.returns-clause-item
returns-clause-item c =
    let pending = c.in-Some.entry.now.pending.items in
    first_of_popped c.pop_front.result pending c.pop_front.new.self.items c.pop_front.ensures.items c.pop_front.ensures.rest
    ∙ sym (ap (λ o. slice_get (pending_of o) 0) (listed-view c.self.inside c.args.client c.self.view_is c.in-Some.ensures.value))

pub returns-clause-left : goal.returns-clause-left
returns-clause-left c =
    let b = c.self.inside in
    let e = c.in-Some.entry.now in
    let w = record e { pending = c.pop_front.new.self } in
    changed b (c.get_mut.follows.lender w) c.args.client (on_record without_first_pending) w c.in-Some.ensures.value (c.get_mut.follows.holds w)
    (ap (λ items. record { client = record (client_of e) { pending = items }; may = e.outbox.from + free_at b.flushes e.outbox }) c.pop_front.ensures.rest)
    ∙ ap (changes without_first_pending c.args.client) c.self.view_is
