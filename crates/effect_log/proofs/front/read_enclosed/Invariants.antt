use Rattle.std.proofs.Common.{◌-◌, length}
use Rattle.effect_log.proofs.OpenedUnits.{IsSoFar}
use Rattle.effect_log.proofs.front.read_enclosed.Given as goal

abbrev pub invariant-loop-starts : goal.invariant-loop-starts
invariant-loop-starts l = IsSoFar l.bytes l.offset l.effects l.starts.items l.place

abbrev pub decreases-loop-starts : goal.decreases-loop-starts
decreases-loop-starts l = length l.bytes - l.place
