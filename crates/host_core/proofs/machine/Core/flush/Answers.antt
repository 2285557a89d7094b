-- Serves clause freed of flush.
use Rattle.std.proofs.Common.{subst, sym}
use Rattle.host_core.specs.Core.{AreJoined}
use Rattle.host_core.proofs.Rolls.{joined_frees}
use Rattle.host_core.proofs.machine.Core.flush.Goals as goal

pub invariant_of-self : goal.invariant_of-self
invariant_of-self c =
    record {
      knows = c.self.invariant.knows;
      joined = subst AreJoined (sym c.flush.ensures.freed) (joined_frees c.self.inside.book c.self.invariant.joined);
    }
