-- Serves the invariant after a name was taken away.
use Rattle.key_events.proofs.Agreeing.{moved, agree_without}
use Rattle.key_events.proofs.roll.Roll.remove.Goals as goal

pub invariant_of-self : goal.invariant_of-self
invariant_of-self c =
    let now = c.self.inside in
    moved _ c.take.new.self _ c.remove.new.self c.take.ensures.taken c.remove.ensures.removed
    (agree_without now.table now.lines c.args.client c.args.name.now c.self.invariant)
