-- Which end of a run a log that was not opened leads to. The keys count nothing that could be
-- spent, so memory alone stops a replay.
use Rattle.restart.specs.declared.opening.OpenStop.{OpenStop}
use Rattle.restart.specs.declared.opening.OpenStop.TheVariants as stop
use Rattle.server_shell.specs.declared.status.Status.{Status}
use Rattle.server_shell.specs.declared.status.Status.TheVariants.{LogRefused, DirFault, Memory, NotBuilt}

abbrev pub status_of_stop : OpenStop → Status
status_of_stop (stop.LogRefused file offset why) = LogRefused file offset why
status_of_stop stop.NotBuilt = NotBuilt 1
status_of_stop stop.Dir = DirFault
status_of_stop (stop.Stopped why) = Memory
