-- Serves the clause on what the clients so far were told.
use Rattle.std.proofs.Common.{◌≡◌, ◌++◌, map, take}
use Rattle.key_events.specs.Messages.{to, message}
use Rattle.key_events.proofs.telling.tell_listeners.Given as goal

abbrev pub invariant-loop-client : goal.invariant-loop-client
invariant-loop-client l = l.outs
    ≡ l.fn.outs ++ map (λ c. to c (message l.channel l.payload)) (take l.client-index l.clients)
