use Rattle.std.proofs.Common.{◌-◌, length}
use Rattle.zip_lists.specs.inner.Walking.{HasWalked}
use Rattle.zip_lists.proofs.ziplist.items.Given as goal

abbrev pub invariant-loop-walk : goal.invariant-loop-walk
invariant-loop-walk l = HasWalked l.bytes l.walk

abbrev pub decreases-loop-walk : goal.decreases-loop-walk
decreases-loop-walk l = length l.bytes - l.walk.place
