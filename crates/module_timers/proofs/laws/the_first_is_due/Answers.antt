-- Serves the law on the due timer.
use Rattle.module_timers.proofs.Found.{first_is_due}
use Rattle.module_timers.proofs.laws.the_first_is_due.Goals as goal

pub returns : goal.returns
returns c = first_is_due
