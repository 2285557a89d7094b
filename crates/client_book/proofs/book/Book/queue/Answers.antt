use Rattle.std.proofs.Common.{ap, ◌∙◌}
use Rattle.std.proofs.lemmas.Result.{on_ok_weaker, on_err_weaker}
use Rattle.client_book.specs.Client.{queues}
use Rattle.client_book.specs.Register.{changes, on_record}
use Rattle.client_book.specs.inner.Entry.{shown}
use Rattle.client_book.proofs.Changing.{changed, kept, not_absent_queue}
use Rattle.client_book.proofs.book.Book.queue.Goals as goal

pub returns-clause-ok : goal.returns-clause-ok
returns-clause-ok c =
    let b = c.self.inside in
    let e = c.in-Some.entry.now in
    let w = record e { queue = c.push_command.new.queue } in
    on_ok_weaker c.push_command.result
    (λ pushed. changed b (c.get_mut.follows.lender w) c.args.client (on_record (queues c.args.words)) w c.in-Some.ensures.value (c.get_mut.follows.holds w)
    (ap (λ queue. shown b.flushes (record e { queue = queue })) pushed)
    ∙ ap (changes (queues c.args.words) c.args.client) c.self.view_is)
    c.push_command.ensures.ok

pub returns-clause-err : goal.returns-clause-err
returns-clause-err c =
    let b = c.self.inside in
    let e = c.in-Some.entry.now in
    let w = record e { queue = c.push_command.new.queue } in
    on_err_weaker c.push_command.result
    (λ same. kept b (c.get_mut.follows.lender w) c.args.client w c.in-Some.ensures.value (c.get_mut.follows.holds w) (ap (λ queue. shown b.flushes (record e { queue = queue })) same)
    ∙ c.self.view_is)
    c.push_command.ensures.err

pub unreachable-requires : goal.unreachable-requires
unreachable-requires c = not_absent_queue c.self.inside c.args.client c.self.view_is c.in_default.ensures.value c.requires.begun
