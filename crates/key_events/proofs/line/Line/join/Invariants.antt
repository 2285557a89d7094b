-- Serves the clause on the clients that were added: those that are left are still to come.
use Rattle.std.proofs.Common.{◌≡◌, ℕ, ◌||◌}
use Rattle.std.specs.FinSet as set
use Rattle.key_events.specs.inner.Listing.{is_among}
use Rattle.key_events.proofs.line.Line.join.Given as goal

abbrev pub invariant-loop-client : goal.invariant-loop-client
invariant-loop-client l = (q : ℕ) → (set.contains l.others q || is_among q l.client-iterator)
    ≡ (set.contains l.fn.others q || set.contains l.self q)
