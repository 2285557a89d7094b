use Rattle.std.proofs.Common.{◌≡◌}
use Rattle.context_lock.specs.Locks.{lock_id}
use Rattle.lock_tests.proofs.turns.turns.Given as goal

abbrev pub invariant-loop : goal.invariant-loop
invariant-loop g l = (l.pass.lock ≡ lock_id l.lock) × (l.pass.parts ≡ l.initial.pass.parts)
