use Rattle.std.proofs.Common.{ap, sym, ◌∙◌, ◌≤◌, ◌++◌, take, drop, length, min, arith}
use Rattle.client_book.specs.Client.{passes}
use Rattle.client_book.specs.Register.{changes, on_record, free_of, told_of}
use Rattle.client_book.specs.inner.Outbox.{free_at}
use Rattle.client_book.specs.inner.Entry.{shown}
use Rattle.client_book.proofs.Changing.{changed, absent, listed-view, free-shown, shown-lets_go}
use Rattle.client_book.proofs.book.Book.take_out.Goals as goal

pub returns-in_default-clause-count : goal.returns-in_default-clause-count
returns-in_default-clause-count c =
    let none = ap free_of (listed-view c.self.inside c.args.client c.self.view_is c.in_default.ensures.value) in
    omega arith

pub returns-in_default-clause-left : goal.returns-in_default-clause-left
returns-in_default-clause-left c =
    absent c.self.inside c.get_mut.follows.lender-at-none c.args.client (on_record (passes 0)) c.in_default.ensures.value c.get_mut.follows.holds-at-none
    ∙ ap (changes (passes 0) c.args.client) c.self.view_is

pub returns-clause-count : goal.returns-clause-count
returns-clause-count c =
    c.take.ensures.count
    ∙ ap (min (length c.args.into.now)) (sym (ap free_of (listed-view c.self.inside c.args.client c.self.view_is c.in-Some.ensures.value) ∙ free-shown c.self.inside.flushes c.in-Some.entry.now))

pub returns-clause-moved : goal.returns-clause-moved
returns-clause-moved c =
    c.take.ensures.moved
    ∙ ap (λ o. take c.take.result (told_of o) ++ drop c.take.result c.args.into.now) (sym (listed-view c.self.inside c.args.client c.self.view_is c.in-Some.ensures.value))

pub returns-clause-left : goal.returns-clause-left
returns-clause-left c =
    let b = c.self.inside in
    let e = c.in-Some.entry.now in
    let w = record e { outbox = c.take.new.self } in
    let within : c.take.result ≤ free_at b.flushes e.outbox = omega (arith, c.take.ensures.count) in
    changed b (c.get_mut.follows.lender w) c.args.client (on_record (passes c.take.result)) w c.in-Some.ensures.value (c.get_mut.follows.holds w)
    (ap (λ box. shown b.flushes (record e { outbox = box })) c.take.ensures.left ∙ shown-lets_go b.flushes c.take.result e within)
    ∙ ap (changes (passes c.take.result) c.args.client) c.self.view_is
