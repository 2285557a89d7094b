-- Serves the invariant where nobody has a name.
use Rattle.key_events.specs.Subscribers.{nobody}
use Rattle.key_events.proofs.Few.{moved, few_new}
use Rattle.key_events.proofs.channels.Channels.new.Goals as goal

pub invariant_of-result : goal.invariant_of-result
invariant_of-result c = moved nobody c.new.result c.new.ensures.empty few_new
