-- Serves the clause of is_behind.
use Rattle.std.proofs.Common.{ap, ◌∙◌}
use Rattle.std.specs.Ordering.{is_lt}
use Rattle.mod_samples.proofs.count_reading.is_behind.Goals as goal

pub returns-in-Some : goal.returns-in-Some
returns-in-Some c = rw c.in-Some.is (c.is_lt.ensures ∙ ap is_lt c.cmp.ensures)
