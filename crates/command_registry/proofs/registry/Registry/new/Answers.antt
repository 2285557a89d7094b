-- Serves the invariant of a registry without commands.
use Rattle.std.proofs.Common.{sym, subst}
use Rattle.command_registry.specs.inner.Sorted.{IsSorted}
use Rattle.command_registry.proofs.Placed.{sorted_none}
use Rattle.command_registry.proofs.registry.Registry.new.Goals as goal

pub invariant_of-result : goal.invariant_of-result
invariant_of-result c = subst IsSorted (sym c.new.ensures.items) sorted_none
