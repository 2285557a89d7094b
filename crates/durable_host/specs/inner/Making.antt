-- What the parts of a step make.
use Rattle.std.specs.Prelude.{◌≡◌, ℕ, Bool, Some, None, Result, Ok, Err}
use Rattle.core_types.specs.declared.event.Answer.{Answer}
use Rattle.core_types.specs.declared.event.Event.{Event}
use Rattle.core_types.specs.declared.event.Event.TheVariants as event
use Rattle.disk_model.specs.Told.{Told}
use Rattle.effect_log.specs.Unit.{unit}
use Rattle.host_core.specs.Core.{Held, state_of}
use Rattle.host_core.specs.Events.{step}
use Rattle.host_core.specs.Replay.{replay}
use Rattle.restart.specs.OpenLog.{HasOpened}
use Rattle.durable_host.specs.Holding.{holding}
use Rattle.durable_host.specs.Host.{KeepsHistory}
use Rattle.durable_host.specs.Starts.{faults_by}
use Rattle.durable_host.specs.Steps.{Happens, IsTakable, Stops}
use Rattle.durable_host.specs.declared.computing.Computed.{Computed}
use Rattle.durable_host.specs.declared.fault.HostFault.{HostFault}
use Rattle.durable_host.specs.declared.fault.StartBack.{StartBack}
use Rattle.durable_host.specs.declared.loading.Loaded.{Loaded}
use Rattle.durable_host.specs.declared.parts.Parts.{Parts}
use Rattle.durable_host.specs.inner.Faults.{cause_of}
use Rattle.durable_host.specs.inner.Running.{AreFronts, IsRunning, seen}

-- the core made the step of an event, and this is to be appended and answered
pub record Computes (event : Event) (before : Held) (computed : Computed) (after : Held)
    : Type 0 where
  pub state : state_of after ≡ (step (state_of before) event).state
  pub unit : computed.unit ≡ unit (step (state_of before) event).effects
  pub answer : computed.answer ≡ (step (state_of before) event).answer
  pub fronts : AreFronts after.register

-- the log was opened, and the core has the keys that it stood for
pub record Loads (old new : Told) (loaded : Loaded) : Type 0 where
  pub opens : HasOpened replay old new loaded.core.keys loaded.opened
  pub core : loaded.core ≡ holding loaded.core.keys
  pub opening : loaded.opening ≡ state_of loaded.core

-- An event of a host that runs happened, or the host stopped. Whether it is to end stays.
pub record GoesWell {D : Type 0} (told : D → Told) (event : Event) (answer : Answer)
    (before after : Parts D) : Type 0 where
  pub happens : (ending : Bool)
      → Happens told event answer (seen None ending before) (seen None ending after)
  pub running : IsRunning told after

pub record GoesWrong {D : Type 0} (told : D → Told) (event : Event) (fault : HostFault)
    (before after : Parts D) : Type 0 where
  pub stops : (ending : Bool)
      → Stops told fault event (seen None ending before) (seen (Some (cause_of fault)) ending after)
  pub kept : (ending : Bool) → KeepsHistory told (seen (Some (cause_of fault)) ending after)

-- an event that is computed, and its unit appended
abbrev pub IsLogged : Event → Type 0
IsLogged event.Flush = ⊥
IsLogged happens = IsTakable happens

-- the directory of parts that were opened, or that is handed back
abbrev pub dir_left : {D : Type 0} → Result (Parts D) (StartBack D) → D
dir_left (Ok parts) = parts.dir
dir_left (Err back) = back.dir

-- the count of its faults, one more exactly where it stopped the opening
abbrev pub faults_left : {D : Type 0} → Result (Parts D) (StartBack D) → ℕ → ℕ
faults_left (Ok parts) count = count
faults_left (Err back) count = faults_by back.stop count
