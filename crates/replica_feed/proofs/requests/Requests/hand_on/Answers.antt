-- Serves the clauses of hand_on.
use Rattle.std.proofs.Common.{ap, subst, ◌∙◌, ◌≤◌, ◌++◌, List, ℕ, length, take, drop}
use Rattle.replica_feed.specs.inner.Placing.{IsLineAhead}
use Rattle.replica_feed.proofs.Placing.{handed_on, same_stream}
use Rattle.replica_feed.proofs.requests.Requests.hand_on.Goals as goal

pub returns-clause-placed : goal.returns-clause-placed
returns-clause-placed c =
    let size = c.line_size-size.result in
    let ahead = c.behind-waiting.ensures ∙ ap (drop c.args.self.now.place) c.as_slice.ensures.bytes in
    handed_on c.args.self.now c.feed.new.self size c.requires.placed c.requires.unfinished
    (subst (λ (b : List ℕ). size ≤ length b) ahead c.line_size-size.ensures.within)
    (subst (λ (b : List ℕ). IsLineAhead (take size b)) ahead c.line_size-size.ensures.line)
    c.feed.ensures.passed (c.in_ok-feed.ensures.ok ∙ ap (λ (b : List ℕ). c.args.self.now.reader.rest ++ b) (c.front.ensures ∙ ap (take size) ahead))

pub returns-clause-same : goal.returns-clause-same
returns-clause-same c =
    let size = c.line_size-size.result in
    let ahead = c.behind-waiting.ensures ∙ ap (drop c.args.self.now.place) c.as_slice.ensures.bytes in
    same_stream c.args.self.now c.feed.new.self size c.feed.ensures.passed
    (c.in_ok-feed.ensures.ok ∙ ap (λ (b : List ℕ). c.args.self.now.reader.rest ++ b) (c.front.ensures ∙ ap (take size) ahead))
