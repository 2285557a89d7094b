-- Serves clause held of tell.
use Rattle.std.proofs.Common.{subst, sym}
use Rattle.resp_codec.specs.ReplyText.{text}
use Rattle.host_core.specs.Core.{AreJoined}
use Rattle.host_core.proofs.Rolls.{joined_told}
use Rattle.host_core.proofs.machine.Core.tell.Goals as goal

pub invariant_of-self-2 : goal.invariant_of-self-2
invariant_of-self-2 c =
    record {
      knows = c.self.invariant.knows;
      joined = subst AreJoined (sym c.in_ok-tell.ensures.ok)
          (joined_told c.args.given.closes (text c.args.given.reply) c.args.client c.self.inside.book c.self.invariant.joined);
    }
