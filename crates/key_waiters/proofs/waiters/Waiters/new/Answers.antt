-- Serves the invariant where nobody waits.
use Rattle.key_waiters.specs.Waiting.{nobody_waits}
use Rattle.std.specs.FinMap as map
use Rattle.key_waiters.proofs.Places.{moved, agree_new}
use Rattle.key_waiters.proofs.waiters.Waiters.new.Goals as goal

pub invariant_of-result : goal.invariant_of-result
invariant_of-result c =
    moved nobody_waits c.new.result map.empty c.new-2.result c.new.ensures.empty
    c.new-2.ensures.empty agree_new
