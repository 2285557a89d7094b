use Rattle.std.proofs.Common.{ap, sym, ◌∙◌, is_some}
use Rattle.client_book.specs.Client.{ends_queue}
use Rattle.client_book.specs.Register.{changes, on_record, queue_of, ended_queue}
use Rattle.client_book.specs.Queue.{ended}
use Rattle.std.specs.Option.{option_map}
use Rattle.client_book.specs.inner.Entry.{shown}
use Rattle.client_book.proofs.Changing.{changed, not_absent_queue, listed-view}
use Rattle.client_book.proofs.book.Book.end_queue.Goals as goal

pub unreachable-requires : goal.unreachable-requires
unreachable-requires c = not_absent_queue c.self.inside c.args.client c.self.view_is c.in_default.ensures.value c.requires.begun

pub end-requires : goal.end-requires
end-requires c = record {
  begun = ap is_some c.take-queued.ensures.value ∙ sym (ap (λ o. is_some (queue_of o)) (listed-view c.self.inside c.args.client c.self.view_is c.in-Some.ensures.value)) ∙ c.requires.begun;
}

pub returns-clause-queue : goal.returns-clause-queue
returns-clause-queue c =
    ap ended_queue (listed-view c.self.inside c.args.client c.self.view_is c.in-Some.ensures.value)
    ∙ (λ i. option_map (ended (sym c.replace-touched.ensures.value i)) (sym c.take-queued.ensures.value i))
    ∙ c.end.ensures.ended

pub returns-clause-ended : goal.returns-clause-ended
returns-clause-ended c =
    let b = c.self.inside in
    let e = c.in-Some.entry.now in
    let w = record e { queue = c.take-queued.new.self; watched = c.replace-watched.new.dest; touched = c.replace-touched.new.dest } in
    let watched = c.replace-watched.ensures.after ∙ c.new-empty.ensures.none in
    changed b (c.get_mut.follows.lender w) c.args.client (on_record ends_queue) w c.in-Some.ensures.value (c.get_mut.follows.holds w)
    (λ i. shown b.flushes (record e { queue = c.take-queued.ensures.after i; watched = watched i; touched = c.replace-touched.ensures.after i }))
    ∙ ap (changes ends_queue c.args.client) c.self.view_is
