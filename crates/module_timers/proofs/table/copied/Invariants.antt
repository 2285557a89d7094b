-- Serves the clause on the copies: those so far, and then the entries that are left.
use Rattle.std.proofs.Common.{◌≡◌, ◌++◌}
use Rattle.module_timers.proofs.table.copied.Given as goal

abbrev pub invariant-loop-number : goal.invariant-loop-number
invariant-loop-number l = l.copies.items ++ l.number-iterator ≡ l.timers.entries
