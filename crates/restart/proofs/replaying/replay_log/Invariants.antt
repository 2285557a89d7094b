use Rattle.std.proofs.Common.{length}
use Rattle.effect_log.specs.Reading.{ahead}
use Rattle.restart.specs.inner.Progress.{Progress}
use Rattle.restart.proofs.replaying.replay_log.Given as goal

abbrev pub invariant-loop-reader : goal.invariant-loop-reader
invariant-loop-reader g l = Progress g.R.Replayer.meaning l.bytes l.reader (g.R.Replayer.keys l.replayer)

-- each unit has a byte
abbrev pub decreases-loop-reader : goal.decreases-loop-reader
decreases-loop-reader g l = length (ahead l.reader)
