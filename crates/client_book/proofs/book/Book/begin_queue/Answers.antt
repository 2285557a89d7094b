use Rattle.std.proofs.Common.{ap, ◌∙◌, Some, false}
use Rattle.client_book.specs.Client.{begins_queue}
use Rattle.client_book.specs.Register.{changes, on_record}
use Rattle.client_book.specs.inner.Entry.{shown}
use Rattle.client_book.proofs.Changing.{changed, not_absent}
use Rattle.client_book.proofs.book.Book.begin_queue.Goals as goal

pub returns : goal.returns
returns c =
    let w = record c.in-Some.entry.now { queue = Some (record { commands = c.new-commands.result; spoiled = false }) } in
    record {
      begun = changed c.self.inside (c.get_mut.follows.lender w) c.args.client (on_record begins_queue) w c.in-Some.ensures.value (c.get_mut.follows.holds w) (ap (λ commands. shown c.self.inside.flushes (record c.in-Some.entry.now { queue = Some (record { commands = commands; spoiled = false }) })) c.new-commands.ensures.empty)
          ∙ ap (changes begins_queue c.args.client) c.self.view_is;
    }

pub unreachable-requires : goal.unreachable-requires
unreachable-requires c = not_absent c.self.inside c.args.client c.self.view_is c.in_default.ensures.value c.requires.there
