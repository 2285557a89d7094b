-- the pass is the one that was handed in
use Rattle.std.proofs.Common.{◌≡◌}
use Rattle.context_lock.proofs.lock.ContextLock.park.Given as goal

abbrev pub invariant-loop : goal.invariant-loop
invariant-loop g l =
    (goal.iterator-loop g).can_next l.iterator' × (goal.iterator-loop g).is_finite l.iterator'
    × (l.pass ≡ l.initial.pass)
