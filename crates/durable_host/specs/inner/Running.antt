-- What holds of the parts of a host: while it runs, and once it has stopped.
use Rattle.std.specs.Prelude.{◌<◌, ◌≤◌, ◌-◌, ◌^◌, true, false, ℕ, Bool, List, ◌++◌, length, take, drop, Option, Some, None, IfSome}
use Rattle.core_types.specs.Keys.{Native}
use Rattle.core_types.specs.Keyspace.{IsKeyspace}
use Rattle.core_types.specs.declared.event.Event.{Event}
use Rattle.core_types.specs.declared.stop.Cause.{Cause}
use Rattle.disk_model.specs.Safe.{IsSafeUpTo}
use Rattle.disk_model.specs.Told.{Told, Now}
use Rattle.disk_model.specs.declared.file_name.FileName.TheVariants.{Log}
use Rattle.effect_log.specs.Replay.{Holds}
use Rattle.effect_log.specs.Written.{AreLoggable, log_text}
use Rattle.client_book.specs.Register.{IsFront, Register, listed}
use Rattle.host_core.specs.Core.{state_of}
use Rattle.host_core.specs.Events.{step}
use Rattle.host_core.specs.Fold as fold
use Rattle.host_core.specs.Laws.{AllJoined}
use Rattle.host_core.specs.Replay.{replay}
use Rattle.host_core.specs.State.{State}
use Rattle.durable_host.specs.Host.{AreFreed, HasLength, Host, KeepsHistory}
use Rattle.durable_host.specs.Kept.{Kept, changes_of, event_count, state_after, state_now}
use Rattle.durable_host.specs.Taking.{SameButTaken}
use Rattle.durable_host.specs.declared.parts.Parts.{Parts}

-- no module's value is forbidden
abbrev pub any_native : Native → Bool
any_native native = true

-- what events write to the log, from a state on
unfoldable pub text_from : State → List Event → List ℕ
text_from state events = log_text (fold.effects step state events)

-- The log holds what the kept events wrote behind bytes that stand for the opening's keys. What the
-- safe events wrote is synced, and the rest was appended since.
pub record LogHolds (kept : Kept) (safe : ℕ) (told : Told) : Type 0 where
  pub base : List ℕ
  pub holds : Holds replay base kept.opening.keys (length base)
  pub log : Now
      (IsSafeUpTo Log (base ++ text_from kept.opening (take (safe - kept.first) kept.events))
      (text_from (state_after safe kept) (drop (safe - kept.first) kept.events))) told

-- what holds of the kept events
pub record IsHistory (kept : Kept) (safe : ℕ) : Type 0 where
  pub counted : event_count kept < 2 ^ 64
  pub begun : kept.first ≤ safe
  pub reached : safe ≤ event_count kept
  pub joined : AllJoined kept.opening
  pub limits : IsKeyspace any_native (state_now kept).keys
  pub loggable : AreLoggable (changes_of kept)

-- the history of the parts, and the host that they make
abbrev pub kept_of : {D : Type 0} → Parts D → Kept
kept_of parts = record { first = parts.first; opening = parts.opening; events = parts.events }

abbrev pub seen : {D : Type 0} → Option Cause → Bool → Parts D → Host D
seen stopped ending parts = record {
  kept = kept_of parts;
  safe = parts.safe;
  held = parts.core;
  dir = parts.dir;
  log_length = parts.log_length;
  stopped = stopped;
  ending = ending;
}

-- what each client may take is a front of what it was told
abbrev pub AreFronts : Register → Type 0
AreFronts register = (client : ℕ) → IfSome (listed register client) IsFront

-- the parts of a host that runs
pub record IsRunning {D : Type 0} (told : D → Told) (parts : Parts D) : Type 0 where
  pub history : IsHistory (kept_of parts) parts.safe
  pub core : SameButTaken (state_now (kept_of parts)) (state_of parts.core)
  pub freed : AreFreed (kept_of parts) parts.safe parts.core.register
  pub fronts : AreFronts parts.core.register
  pub log : LogHolds (kept_of parts) parts.safe (told parts.dir)
  pub length : HasLength parts.log_length (told parts.dir)

-- the parts of a host, running or stopped
abbrev pub IsSound : {D : Type 0} → (D → Told) → Option Cause → Parts D → Type 0
IsSound told None parts = IsRunning told parts
IsSound told (Some why) parts = KeepsHistory told (seen (Some why) false parts)
