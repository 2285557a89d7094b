-- How a run of the program ends.
use Rattle.std.specs.Prelude.{◌≡◌, ◌⊎◌, None, IfSome}
use Rattle.disk_model.specs.Runs.{LeavesOnly}
use Rattle.disk_model.specs.Told.{Told, disk_told, files_told}
use Rattle.host_core.specs.Replay.{replay}
use Rattle.restart.specs.Restart.{Restarts, RestartsAsLeft}
use Rattle.restart.specs.declared.opening.OpenStop.{OpenStop}
use Rattle.durable_host.specs.Host.{Host, KeepsHistory}
use Rattle.durable_host.specs.Kept.{state_now}
use Rattle.durable_host.specs.Starts.{Begins, StartStops}
use Rattle.server_shell.specs.Faults.{StandsAt}
use Rattle.server_shell.specs.Pipe.{Outside, PipeEnds}
use Rattle.server_shell.specs.Stops.{status_of_stop}
use Rattle.server_shell.specs.declared.status.Status.{Status}

-- nothing was taken of the source or given to the sink, and the clock was not read
pub record IsIdle (o : Outside) : Type 0 where
  pub left : o.left' ≡ o.left
  pub clock : o.clock' ≡ o.clock
  pub got : o.got' ≡ o.got

-- No host was started, for this cause, and whatever a crash leaves restarts as before.
pub record NotStarted {D : Type 0} (end : Status) (told : D → Told) (dir dir' : D) (o : Outside)
    : Type 0 where
  pub why : OpenStop
  pub is : end ≡ status_of_stop why
  pub stops : StartStops why (told dir) (told dir')
  pub crash : LeavesOnly (told dir) (told dir') (RestartsAsLeft replay (disk_told (told dir)))
  pub idle : IsIdle o

-- A host was started over the directory, and served the source as client 1; where it had not
-- stopped, the directory restarts to the keys that its events led to. While it was started,
-- whatever a crash leaves restarts as before; from then on, as `ends` says.
pub record Ran {D : Type 0} (end : Status) (told : D → Told) (dir dir' : D) (o : Outside)
    : Type 0 where
  pub begun : Host D
  pub ended : Host D
  pub begins : Begins told (told dir) begun
  pub crash : LeavesOnly (told dir) (told begun.dir) (RestartsAsLeft replay (disk_told (told dir)))
  pub ends : PipeEnds end told begun ended o
  pub stands : StandsAt end ended
  pub keeps : KeepsHistory told ended
  pub dir_is : dir' ≡ ended.dir
  pub stands_for : ended.stopped ≡ None
      → IfSome (files_told (told dir')) (λ files. Restarts replay files (state_now ended.kept).keys)

-- How serving ends over a directory.
abbrev pub RunEnds : {D : Type 0} → Status → (D → Told) → D → D → Outside → Type 0
RunEnds end told dir dir' o = NotStarted end told dir dir' o ⊎ Ran end told dir dir' o
