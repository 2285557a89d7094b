-- Serves the invariant where nobody has a name.
use Rattle.std.specs.FinMap as map
use Rattle.key_events.proofs.Agreeing.{moved, agree_new}
use Rattle.key_events.proofs.roll.Roll.new.Goals as goal

pub invariant_of-result : goal.invariant_of-result
invariant_of-result c =
    moved map.empty c.new.result map.empty c.new-2.result c.new.ensures.empty
    c.new-2.ensures.empty agree_new
