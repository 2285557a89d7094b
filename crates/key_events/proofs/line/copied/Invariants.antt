-- Serves the clause on the copies: those so far, and then the clients that are left.
use Rattle.std.proofs.Common.{◌≡◌, ◌++◌}
use Rattle.key_events.proofs.line.copied.Given as goal

abbrev pub invariant-loop-client : goal.invariant-loop-client
invariant-loop-client l = l.copies.items ++ l.client-iterator ≡ l.clients.keys
