-- Serves the clause that a refused entry leaves the clients as they were.
use Rattle.std.proofs.Common.{◌≡◌, ap, ◌∙◌, rules}
use Rattle.std.specs.FinMap as map
use Rattle.blocked_tickets.proofs.Shown.{put_and_taken}
use Rattle.blocked_tickets.proofs.tickets.enter.Goals as goal

pub returns-then-is_err-clause-err : goal.returns-then-is_err-clause-err
returns-then-is_err-clause-err c =
    let same : c.remove.new.self ≡ c.args.waiters.now = c.remove.ensures.removed ∙ ap (λ m. map.remove m c.args.client) c.in_ok-insert.ensures.ok ∙ put_and_taken c.args.waiters.now c.args.client c.args.ticket c.requires in
    search rules
