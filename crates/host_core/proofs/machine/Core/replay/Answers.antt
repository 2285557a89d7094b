-- Serves clause refused of Core::replay.
use Rattle.std.proofs.Common.{◌≡◌, subst}
use Rattle.effect_log.specs.Replay.{Refuses}
use Rattle.host_core.specs.Replay.{replay}
use Rattle.host_core.proofs.machine.Core.replay.Goals as goal

pub returns-clause-refused : goal.returns-clause-refused
returns-clause-refused c place why is =
    subst (λ held. (place ≡ 0) × Refuses replay held.keys c.args.effect.now why) c.self.view_is (c.replay.ensures.refused place why is)
