-- Serves clause empty of new.
use Rattle.std.proofs.Common.{subst, sym}
use Rattle.host_core.specs.Core.{AreJoined}
use Rattle.host_core.proofs.Rolls.{joined_nobody}
use Rattle.host_core.proofs.machine.Core.new.Goals as goal

pub invariant_of-result : goal.invariant_of-result
invariant_of-result c =
    record {
      knows = c.in_ok-all_names.ensures.knows;
      joined = subst AreJoined (sym c.new-2.ensures.nobody) joined_nobody;
    }
