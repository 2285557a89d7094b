-- Serves the invariant where there are no timers.
use Rattle.std.proofs.Common.{sym, subst}
use Rattle.std.specs.FinSet as set
use Rattle.module_timers.specs.inner.Indexed.{Indexed, table_of}
use Rattle.module_timers.proofs.Agree.{indexed_new}
use Rattle.module_timers.proofs.timers.Timers.new.Goals as goal

pub invariant_of-result : goal.invariant_of-result
invariant_of-result c =
    subst (λ s. Indexed s (table_of c.new.result 1)) (sym c.new-2.ensures.empty)
    (subst (λ m. Indexed set.empty (table_of m 1)) (sym c.new.ensures.empty) indexed_new)
