-- Serves the clauses of look.
use Rattle.std.proofs.Common.{◌∙◌, drop, Ok}
use Rattle.replica_feed.proofs.Placing.{placed_after, fed_by_skips, fed_by_refusal, fed_by_take, one_refuses, one_skips, one_taken, refused_from, skips_of, taken_at}
use Rattle.replica_feed.proofs.requests.Requests.look.Goals as goal

pub returns-in_err-words-clause-placed : goal.returns-in_err-words-clause-placed
returns-in_err-words-clause-placed c =
    let skips = c.in_err-words.ensures.err in
    placed_after c.args.self.now c.next.new.self c.requires.placed
    (fed_by_skips c.args.self.now.reader c.next.new.self skips)
    (one_skips c.args.self.now.reader c.next.new.self c.requires.placed.one skips)

pub passed-requires : goal.passed-requires
passed-requires c =
    let refuses = c.in_ok-words.ensures.bad c.in-Bad.kind c.in-Bad.field-1 (λ i. Ok (c.in-Bad.is i)) in
    record { handed = c.requires.placed.handed_is ∙ fed_by_refusal c.args.self.now.reader c.next.new.self c.in-Bad.kind c.in-Bad.field-1 refuses }

pub returns-in-Request-clause-placed : goal.returns-in-Request-clause-placed
returns-in-Request-clause-placed c =
    let takes = c.in_ok-words.ensures.request c.in-Request.words (λ i. Ok (c.in-Request.is i)) in
    placed_after c.args.self.now c.next.new.self c.requires.placed
    (fed_by_take c.args.self.now.reader c.next.new.self c.in-Request.words takes)
    (one_taken c.args.self.now.reader c.next.new.self c.in-Request.words c.requires.placed.one takes)

pub returns-in-Request-clause-looks : goal.returns-in-Request-clause-looks
returns-in-Request-clause-looks c =
    let takes = c.in_ok-words.ensures.request c.in-Request.words (λ i. Ok (c.in-Request.is i)) in
    taken_at (drop c.args.self.now.place c.args.self.now.waiting) c.args.self.now.reader c.next.new.self c.in-Request.words c.passed-begin.result
    c.requires.placed.one c.passed-begin.ensures.passed takes

pub returns-in-Bad-clause-placed : goal.returns-in-Bad-clause-placed
returns-in-Bad-clause-placed c =
    let refuses = c.in_ok-words.ensures.bad c.in-Bad.kind c.in-Bad.field-1 (λ i. Ok (c.in-Bad.is i)) in
    placed_after c.args.self.now c.next.new.self c.requires.placed
    (fed_by_refusal c.args.self.now.reader c.next.new.self c.in-Bad.kind c.in-Bad.field-1 refuses)
    (one_refuses c.args.self.now.reader c.next.new.self c.in-Bad.kind c.in-Bad.field-1 c.requires.placed.one refuses)

pub returns-in-Bad-clause-looks : goal.returns-in-Bad-clause-looks
returns-in-Bad-clause-looks c =
    let refuses = c.in_ok-words.ensures.bad c.in-Bad.kind c.in-Bad.field-1 (λ i. Ok (c.in-Bad.is i)) in
    refused_from (drop c.args.self.now.place c.args.self.now.waiting) c.args.self.now.reader c.next.new.self c.in-Bad.kind c.in-Bad.field-1 c.passed.result
    c.passed.ensures.passed refuses

pub returns-in-More-clause-placed : goal.returns-in-More-clause-placed
returns-in-More-clause-placed c =
    let skips = skips_of c.args.self.now.reader c.next.new.self (c.in_ok-words.ensures.more (λ i. Ok (c.in-More.is i))) in
    placed_after c.args.self.now c.next.new.self c.requires.placed
    (fed_by_skips c.args.self.now.reader c.next.new.self skips)
    (one_skips c.args.self.now.reader c.next.new.self c.requires.placed.one skips)
