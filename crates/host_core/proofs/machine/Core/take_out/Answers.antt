-- Serves clause left of take_out.
use Rattle.std.proofs.Common.{subst, sym}
use Rattle.client_book.specs.Client.{passes}
use Rattle.host_core.specs.Core.{AreJoined}
use Rattle.host_core.proofs.Rolls.{joined_changes}
use Rattle.host_core.proofs.machine.Core.take_out.Goals as goal

pub invariant_of-self : goal.invariant_of-self
invariant_of-self c =
    record {
      knows = c.self.invariant.knows;
      joined = subst AreJoined (sym c.take_out.ensures.left)
          (joined_changes (passes c.take_out.result) c.args.client c.self.inside.book c.self.invariant.joined);
    }
