use Rattle.std.proofs.Common.{◌≡◌, drop, map}
use Rattle.disk_model.specs.Past.{after}
use Rattle.disk_model.specs.inner.Recorded.{made_of}
use Rattle.disk_model.proofs.memory.disk.replay_all.Given as goal

abbrev pub invariant-loop-deed : goal.invariant-loop-deed
invariant-loop-deed l = after l.disk (map made_of (drop l.deed-index l.deeds)) ≡ after l.initial.disk (map made_of l.deeds)
