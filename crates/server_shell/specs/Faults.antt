-- Which object counts a fault.
use Rattle.std.specs.Prelude.{⊤, ◌≡◌, ◌⊎◌, ◌-◌, ◌^◌, ℕ, Result, Ok, Err, Some, None}
use Rattle.core_types.specs.Causes.{one_more}
use Rattle.disk_model.specs.Told.{Told}
use Rattle.io_edges.specs.Told.{SinkTold}
use Rattle.durable_host.specs.Host.{Host}
use Rattle.durable_host.specs.Kept.{event_count}
use Rattle.durable_host.specs.declared.fault.HostFault.{HostFault}
use Rattle.durable_host.specs.declared.fault.HostFault.TheVariants as fault
use Rattle.core_types.specs.declared.stop.Cause.{Cause}
use Rattle.core_types.specs.declared.stop.Cause.TheVariants as cause
use Rattle.server_shell.specs.declared.status.Status.{Status}
use Rattle.server_shell.specs.declared.status.Status.TheVariants as status

-- how often the directory, the source and the sink have failed
pub record Faults : Type 0 where
  pub dir : ℕ
  pub source : ℕ
  pub sink : ℕ

-- the counts after an end: its own object counted one more, and no other any
abbrev pub counted_by : Status → Faults → Faults
counted_by status.DirFault faults = record faults { dir = one_more faults.dir }
counted_by status.ReadFault faults = record faults { source = one_more faults.source }
counted_by status.WriteFault faults = record faults { sink = one_more faults.sink }
counted_by other faults = faults

-- the end that a call leads to; one that answers Ok counts as the end of all
abbrev pub end_of : {T : Type 0} → Result T Status → Status
end_of (Ok done) = status.Done
end_of (Err why) = why

-- the end that a cause leads to, and that of a step
abbrev pub status_of_cause : Cause → Status
status_of_cause cause.Dir = status.DirFault
status_of_cause cause.Memory = status.Memory
status_of_cause cause.NumbersSpent = status.NumbersSpent

abbrev pub status_of_fault : HostFault → Status
status_of_fault fault.Dir = status.DirFault
status_of_fault fault.Memory = status.Memory
status_of_fault fault.NumbersSpent = status.NumbersSpent
status_of_fault (fault.Stopped why) = status_of_cause why

-- the counts, by what a directory and a sink tell, and this count of the source's
abbrev pub faults_of : Told → ℕ → SinkTold → Faults
faults_of dir source sink = record { dir = dir.faults; source = source; sink = sink.faults }

-- the count of the directory's faults alone
abbrev pub dir_faults : Status → ℕ → ℕ
dir_faults status.DirFault count = one_more count
dir_faults other count = count

-- an end that a step of a host leads to, and one that serving leads to
abbrev pub IsHostStop : Status → Type 0
IsHostStop status.DirFault = ⊤
IsHostStop status.Memory = ⊤
IsHostStop status.NumbersSpent = ⊤
IsHostStop other = ⊥

-- and one that it leads to where it asks nothing of its directory
abbrev pub IsOwnStop : Status → Type 0
IsOwnStop status.Memory = ⊤
IsOwnStop status.NumbersSpent = ⊤
IsOwnStop other = ⊥

abbrev pub IsServeStop : Status → Type 0
IsServeStop status.WriteFault = ⊤
IsServeStop other = IsHostStop other

-- How a host stands after an end: it was stopped by a fault of the directory, by a counter that
-- stands at its end, and, where it met it itself, by want of memory; by nothing else. Where the
-- sink failed all events are safe.
abbrev pub StandsAt : {D : Type 0} → Status → Host D → Type 0
StandsAt status.DirFault host = host.stopped ≡ Some cause.Dir
StandsAt status.NumbersSpent host =
    (host.stopped ≡ Some cause.NumbersSpent) × (event_count host.kept ≡ 2 ^ 64 - 1)
StandsAt status.Memory host = (host.stopped ≡ None) ⊎ (host.stopped ≡ Some cause.Memory)
StandsAt status.WriteFault host =
    (host.stopped ≡ None) × (host.safe ≡ event_count host.kept)
StandsAt other host = host.stopped ≡ None
