-- What a crash leaves while a log is made safe and cut.
use Rattle.std.specs.Prelude.{ℕ, List}
use Rattle.core_types.specs.Keys.{Keys}
use Rattle.disk_model.specs.Told.{Told, disk_told}
use Rattle.disk_model.specs.Runs.{MayLeave, LeavesOnly}
use Rattle.effect_log.specs.Replay.{Meaning, Holds}
use Rattle.restart.specs.Restart.{RestartsAsLeft}

-- From here to there a crash leaves nothing that it might not have left at first.
abbrev pub LeavesNothingNew : Told → Told → Type 0
LeavesNothingNew old new = LeavesOnly old new (MayLeave (disk_told old))

-- Where a log of these bytes holds keys, in its first bytes, what a crash leaves from here to there
-- restarts as something that it might have left at first.
pub record RestartsAsAtFirst (bytes : List ℕ) (kept : ℕ) (old new : Told) : Type 0 where
  pub each : (replay : Meaning) (keys : Keys) → Holds replay bytes keys kept
      → LeavesOnly old new (RestartsAsLeft replay (disk_told old))
