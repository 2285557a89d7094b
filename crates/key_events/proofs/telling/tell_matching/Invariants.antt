-- Serves the clause on what the clients so far were told.
use Rattle.std.proofs.Common.{◌≡◌, ◌++◌, take}
use Rattle.std.specs.List.{flat_map}
use Rattle.key_events.specs.Rolls.{names_at}
use Rattle.key_events.specs.Messages.{by_patterns}
use Rattle.key_events.proofs.telling.tell_matching.Given as goal

abbrev pub invariant-loop-client : goal.invariant-loop-client
invariant-loop-client l = l.outs
    ≡ l.fn.outs ++ flat_map (λ c. by_patterns l.channel l.payload (c, names_at l.patterns c))
    (take l.client-index l.clients)
