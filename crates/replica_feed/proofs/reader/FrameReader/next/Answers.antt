-- Serves the clauses of next.
use Rattle.std.proofs.Common.{refl, sym, ◌∙◌, None, Some}
use Rattle.replica_feed.specs.inner.Placing.{seen}
use Rattle.replica_feed.proofs.Telling.{taken_seen, bad_seen, feed_of}
use Rattle.replica_feed.proofs.reader.FrameReader.next.Goals as goal

pub returns-in-Some-take-clause-frame : goal.returns-in-Some-take-clause-frame
returns-in-Some-take-clause-frame c offset f e =
    let told = c.tell.ensures.frame offset f e in
    let stream = seen c.self.inside.requests in
    let begin = c.in-Some-take.begin in
    let words = c.in-Some-take.words in
    taken_seen (Some (begin, words)) stream stream begin words (refl, refl) c.args.self.now c.tell.new.self offset f
    (sym (λ i. feed_of stream ((sym c.take.ensures.value ∙ c.in-Some-take.is) i) (c.in_default.is i)) ∙ c.self.view_is)
    (sym (told.2 ∙ (λ i. feed_of stream (c.take.ensures.after i) (c.in_default.is i))))
    (sym told.0) told.1

pub returns-in-Some-take-clause-bad : goal.returns-in-Some-take-clause-bad
returns-in-Some-take-clause-bad c offset why e =
    let told = c.tell.ensures.bad offset why e in
    let stream = seen c.self.inside.requests in
    let begin = c.in-Some-take.begin in
    let words = c.in-Some-take.words in
    bad_seen (Some (begin, words)) stream stream begin words (refl, refl) c.args.self.now c.tell.new.self offset why
    (sym (λ i. feed_of stream ((sym c.take.ensures.value ∙ c.in-Some-take.is) i) (c.in_default.is i)) ∙ c.self.view_is)
    (sym (told.2 ∙ (λ i. feed_of stream (c.take.ensures.after i) (Some (begin, why)))))
    (sym told.0) told.1

pub returns-in-Request-clause-frame : goal.returns-in-Request-clause-frame
returns-in-Request-clause-frame c offset f e =
    let told = c.tell-in-Request.ensures.frame offset f e in
    let begin = c.in-Request.begin in
    let words = c.in-Request.words in
    let comes = rw c.in-Request.is at c.in_ok-begin.ensures.came in
    taken_seen None (seen c.self.inside.requests) (seen c.next.new.self) begin words comes c.args.self.now c.tell-in-Request.new.self offset f
    (sym (λ i. feed_of (seen c.self.inside.requests) ((sym c.take.ensures.value ∙ c.in_default-take.is) i) (c.in_default.is i)) ∙ c.self.view_is)
    (sym (told.2 ∙ (λ i. feed_of (seen c.next.new.self) (c.take.ensures.after i) (c.in_default.is i))))
    (sym told.0) told.1

pub returns-in-Request-clause-bad : goal.returns-in-Request-clause-bad
returns-in-Request-clause-bad c offset why e =
    let told = c.tell-in-Request.ensures.bad offset why e in
    let begin = c.in-Request.begin in
    let words = c.in-Request.words in
    let comes = rw c.in-Request.is at c.in_ok-begin.ensures.came in
    bad_seen None (seen c.self.inside.requests) (seen c.next.new.self) begin words comes c.args.self.now c.tell-in-Request.new.self offset why
    (sym (λ i. feed_of (seen c.self.inside.requests) ((sym c.take.ensures.value ∙ c.in_default-take.is) i) (c.in_default.is i)) ∙ c.self.view_is)
    (sym (told.2 ∙ (λ i. feed_of (seen c.next.new.self) (c.take.ensures.after i) (Some (begin, why)))))
    (sym told.0) told.1
