use Rattle.std.proofs.Common.{◌≡◌, Ok, take}
use Rattle.effect_log.specs.Replay.{replayed}
use Rattle.replica_feed.proofs.replica.replay_all.Given as goal

-- the effects so far were replayed
abbrev pub invariant-loop-effect : goal.invariant-loop-effect
invariant-loop-effect g l =
    replayed g.R.Replayer.meaning (g.R.Replayer.keys l.fn.replayer) (take l.effect-index l.effects)
    ≡ Ok (g.R.Replayer.keys l.replayer)
