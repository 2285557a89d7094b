use Rattle.std.proofs.Common.{◌≡◌, drop}
use Rattle.disk_model.specs.Disk.{after_changes}
use Rattle.disk_model.proofs.memory.disk.stored.change_all.Given as goal

abbrev pub invariant-loop-change : goal.invariant-loop-change
invariant-loop-change l = after_changes l.bytes (drop l.change-index l.changes) ≡ after_changes l.initial.bytes l.changes
