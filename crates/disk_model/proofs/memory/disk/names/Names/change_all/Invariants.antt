use Rattle.std.proofs.Common.{◌≡◌, drop}
use Rattle.disk_model.specs.Disk.{after_renames}
use Rattle.disk_model.proofs.memory.disk.names.Names.change_all.Given as goal

abbrev pub invariant-loop-change : goal.invariant-loop-change
invariant-loop-change l = after_renames l.self (drop l.change-index l.changes) ≡ after_renames l.initial.self l.changes
