use Rattle.std.proofs.Common.{◌≡◌, drop}
use Rattle.disk_model.specs.Choices.{after_steps}
use Rattle.disk_model.proofs.memory.disk.stored.step_all.Given as goal

abbrev pub invariant-loop-change : goal.invariant-loop-change
invariant-loop-change l = after_steps l.left l.bytes (drop l.change-index l.changes) ≡ after_steps l.fn.steps l.initial.bytes l.changes
