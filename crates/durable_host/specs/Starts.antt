-- What starting a host finds and leaves.
use Rattle.std.specs.Prelude.{◌≡◌, ℕ, false, None, Result, Ok, Err}
use Rattle.core_types.specs.Causes.{one_more}
use Rattle.core_types.specs.Keys.{Keys}
use Rattle.core_types.specs.declared.stop.Stop.TheVariants as stop
use Rattle.disk_model.specs.Told.{Told, files_told}
use Rattle.host_core.specs.Core.{state_of}
use Rattle.host_core.specs.Replay.{replay}
use Rattle.restart.specs.OpenLog.{HasOpened, IsPartlyOpen, OpenStops}
use Rattle.restart.specs.declared.opening.OpenStop.{OpenStop}
use Rattle.restart.specs.declared.opening.OpenStop.TheVariants as stops
use Rattle.restart.specs.declared.opening.Opened.{Opened}
use Rattle.durable_host.specs.Holding.{holding}
use Rattle.durable_host.specs.Host.{Host}
use Rattle.durable_host.specs.Kept.{from_opening}
use Rattle.durable_host.specs.declared.fault.StartBack.{StartBack}

-- The directory stood for these keys, and the log is opened; the host begins from them, runs, and
-- has kept no event.
pub record Begins {D : Type 0} (told : D → Told) (old : Told) (host : Host D) : Type 0 where
  pub keys : Keys
  pub opened : Opened
  pub opens : HasOpened replay old (told host.dir) keys opened
  pub kept : host.kept ≡ from_opening (state_of (holding keys))
  pub safe : host.safe ≡ 0
  pub held : host.held ≡ holding keys
  pub log_length : host.log_length ≡ opened.kept
  pub runs : host.stopped ≡ None
  pub ending : host.ending ≡ false

-- Why a host was not started, and how that left the directory. Want of memory may be met before the
-- log is opened, or after it.
abbrev pub StartStops : OpenStop → Told → Told → Type 0
StartStops (stops.Stopped why) old new =
    (why ≡ stop.Memory) × IsPartlyOpen replay (files_told old) (files_told new)
StartStops other old new = OpenStops replay other old new

-- the directory of a host that was started, or that is handed back
abbrev pub dir_of : {D : Type 0} → Result (Host D) (StartBack D) → D
dir_of (Ok host) = host.dir
dir_of (Err back) = back.dir

-- a count of faults after a start that stopped so: one more where the directory failed
abbrev pub faults_by : OpenStop → ℕ → ℕ
faults_by stops.Dir count = one_more count
faults_by other count = count

-- the count of a directory's faults after a start
abbrev pub faults_after : {D : Type 0} → Result (Host D) (StartBack D) → ℕ → ℕ
faults_after (Ok host) count = count
faults_after (Err back) count = faults_by back.stop count
