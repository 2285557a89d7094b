-- Serves the clause on the first that has come: it is the first of those that are left.
use Rattle.std.proofs.Common.{◌≡◌}
use Rattle.module_timers.specs.inner.Earliest.{first_come}
use Rattle.module_timers.proofs.dues.first_come.Given as goal

abbrev pub invariant-loop-due : goal.invariant-loop-due
invariant-loop-due l =
    first_come l.now l.below l.due-iterator ≡ first_come l.now l.below l.dues.keys
