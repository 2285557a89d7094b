use Rattle.std.proofs.Common.{sym, ap, ◌∙◌, length, ◌+◌}
use Rattle.std.proofs.lemmas.Result.{on_ok_weaker, on_err_weaker}
use Rattle.client_book.specs.Client.{pends}
use Rattle.client_book.specs.Register.{changes, on_record, pending_of}
use Rattle.client_book.specs.inner.Outbox.{free_at}
use Rattle.client_book.specs.inner.Entry.{client_of}
use Rattle.client_book.proofs.Changing.{changed, kept, listed-view, not_absent}
use Rattle.client_book.proofs.book.Book.pend.Goals as goal

pub returns-clause-ok : goal.returns-clause-ok
returns-clause-ok c =
    let b = c.self.inside in
    let e = c.in-Some.entry.now in
    let w = record e { pending = c.push_pending.new.items } in
    on_ok_weaker c.push_pending.result
    (λ pushed. changed b (c.get_mut.follows.lender w) c.args.client (on_record (pends c.args.item)) w c.in-Some.ensures.value (c.get_mut.follows.holds w)
    (ap (λ items. record { client = record (client_of e) { pending = items }; may = e.outbox.from + free_at b.flushes e.outbox }) pushed)
    ∙ ap (changes (pends c.args.item) c.args.client) c.self.view_is)
    c.push_pending.ensures.ok

pub returns-clause-too_many : goal.returns-clause-too_many
returns-clause-too_many c =
    let pending = ap (λ o. length (pending_of o)) (listed-view c.self.inside c.args.client c.self.view_is c.in-Some.ensures.value) in
    (λ e. pending ∙ c.push_pending.ensures.too_many.0 e, λ full. c.push_pending.ensures.too_many.1 (sym pending ∙ full))

pub returns-clause-err : goal.returns-clause-err
returns-clause-err c =
    let b = c.self.inside in
    let e = c.in-Some.entry.now in
    let w = record e { pending = c.push_pending.new.items } in
    on_err_weaker c.push_pending.result
    (λ same. kept b (c.get_mut.follows.lender w) c.args.client w c.in-Some.ensures.value (c.get_mut.follows.holds w)
    (ap (λ items. record { client = record (client_of e) { pending = items }; may = e.outbox.from + free_at b.flushes e.outbox }) same)
    ∙ c.self.view_is)
    c.push_pending.ensures.err

pub unreachable-requires : goal.unreachable-requires
unreachable-requires c = not_absent c.self.inside c.args.client c.self.view_is c.in_default.ensures.value c.requires.there
