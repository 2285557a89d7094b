-- Serves the invariant after a name was taken away.
use Rattle.key_events.proofs.Few.{moved, few_without}
use Rattle.key_events.proofs.channels.Channels.unsubscribe.Goals as goal

pub invariant_of-self : goal.invariant_of-self
invariant_of-self c =
    moved _ c.remove.new.self c.remove.ensures.removed
    (few_without c.self.inside.rolls c.args.client c.args.name.now c.args.pattern c.self.invariant)
