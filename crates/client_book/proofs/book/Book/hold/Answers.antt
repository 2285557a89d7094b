use Rattle.std.proofs.Common.{ap, ◌∙◌}
use Rattle.resp_codec.specs.ReplyText.{text}
use Rattle.std.proofs.lemmas.Result.{on_ok_weaker, on_err_weaker}
use Rattle.client_book.specs.Client.{tells}
use Rattle.client_book.specs.Register.{changes, on_record}
use Rattle.client_book.specs.inner.Entry.{shown}
use Rattle.client_book.proofs.Changing.{changed, kept, shown-holds, not_absent}
use Rattle.client_book.proofs.book.Book.hold.Goals as goal

pub returns-clause-ok : goal.returns-clause-ok
returns-clause-ok c =
    let b = c.self.inside in
    let e = c.in-Some.entry.now in
    let w = record e { outbox = c.hold.new.self } in
    let told = text c.args.reply.now in
    on_ok_weaker c.hold.result
    (λ held. changed b (c.get_mut.follows.lender w) c.args.client (on_record (tells told)) w c.in-Some.ensures.value (c.get_mut.follows.holds w)
    (ap (λ box. shown b.flushes (record e { outbox = box })) held ∙ shown-holds b.flushes e told)
    ∙ ap (changes (tells told) c.args.client) c.self.view_is)
    c.hold.ensures.ok

pub returns-clause-err : goal.returns-clause-err
returns-clause-err c =
    let b = c.self.inside in
    let e = c.in-Some.entry.now in
    let w = record e { outbox = c.hold.new.self } in
    on_err_weaker c.hold.result
    (λ same. kept b (c.get_mut.follows.lender w) c.args.client w c.in-Some.ensures.value (c.get_mut.follows.holds w) (ap (λ box. shown b.flushes (record e { outbox = box })) same)
    ∙ c.self.view_is)
    c.hold.ensures.err

pub unreachable-requires : goal.unreachable-requires
unreachable-requires c = not_absent c.self.inside c.args.client c.self.view_is c.in_default.ensures.value c.requires.there
