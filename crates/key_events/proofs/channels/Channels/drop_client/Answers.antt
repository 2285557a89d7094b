-- Serves the invariant after a client was taken out.
use Rattle.key_events.proofs.Few.{moved, few_dropped}
use Rattle.key_events.proofs.channels.Channels.drop_client.Goals as goal

pub invariant_of-self : goal.invariant_of-self
invariant_of-self c =
    moved _ c.drop_client.new.self c.drop_client.ensures.dropped
    (few_dropped c.self.inside.rolls c.args.client c.self.invariant)
