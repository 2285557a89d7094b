use Rattle.std.proofs.Common.{◌≡◌, Ok, take}
use Rattle.effect_log.specs.Replay.{replayed}
use Rattle.restart.proofs.replaying.replay_unit.Given as goal

-- the effects so far were replayed
abbrev pub invariant-loop-n : goal.invariant-loop-n
invariant-loop-n g l =
    replayed g.R.Replayer.meaning (g.R.Replayer.keys l.fn.replayer) (take l.n l.effects) ≡ Ok (g.R.Replayer.keys l.replayer)
