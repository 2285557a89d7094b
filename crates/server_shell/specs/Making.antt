-- What a run of events over a host made, and what it handed to its sink.
use Rattle.std.specs.Prelude.{◌≡◌, ◌≤◌, ◌⊎◌, ℕ, ◌-◌, List, ◌++◌, length, take, drop, Some, None}
use Rattle.core_types.specs.declared.event.Event.{Event}
use Rattle.core_types.specs.declared.stop.Cause.TheVariants as cause
use Rattle.disk_model.specs.Files.{Become, with_appended}
use Rattle.disk_model.specs.Runs.{LeavesOnly}
use Rattle.disk_model.specs.Told.{Told, files_told}
use Rattle.disk_model.specs.declared.file_name.FileName.TheVariants.{Log}
use Rattle.effect_log.specs.Written.{log_text}
use Rattle.client_book.specs.Register.{listed}
use Rattle.host_core.specs.Core.{may_of}
use Rattle.host_core.specs.Events.{step}
use Rattle.host_core.specs.Fold as fold
use Rattle.host_core.specs.State.{State}
use Rattle.durable_host.specs.Crash.{HoldsFrom}
use Rattle.durable_host.specs.Host.{Host, KeepsHistory}
use Rattle.durable_host.specs.Kept.{Kept, state_now}
use Rattle.durable_host.specs.Taking.{taken_of}

-- a history that went on
abbrev pub with_events : List Event → Kept → Kept
with_events events kept = record kept { events = kept.events ++ events }

-- what events write to the log, and what they tell client 1, from a state on
abbrev pub writes : State → List Event → List ℕ
writes state events = log_text (fold.effects step state events)

abbrev pub tells : State → List Event → List ℕ
tells state events = fold.said step state events 1

-- up to where client 1 took its replies, and may take them
abbrev pub taken_by : {D : Type 0} → Host D → ℕ
taken_by host = taken_of (listed host.held.register 1)

abbrev pub open_to : {D : Type 0} → Host D → ℕ
open_to host = may_of (listed host.held.register 1)

-- The events were made, all of them: they are kept, the log goes on with what they wrote, and
-- whatever a crash leaves on the way restarts to the keys after some of all events, those that were
-- safe before among them.
pub record MakesAll {D : Type 0} (told : D → Told) (events : List Event) (before after : Host D)
    : Type 0 where
  pub runs : after.stopped ≡ None
  pub kept : after.kept ≡ with_events events before.kept
  pub keeps : KeepsHistory told after
  pub safe : before.safe ≤ after.safe
  pub ending : after.ending ≡ before.ending
  pub log : Become (with_appended Log (writes (state_now before.kept) events))
      (files_told (told before.dir)) (files_told (told after.dir))
  pub crash : LeavesOnly (told before.dir) (told after.dir)
      (HoldsFrom (with_events events before.kept) before.safe)

-- The log goes on with this many bytes of what events wrote: with all, or the directory failed.
pub record IsLogged {D : Type 0} (told : D → Told) (events : List Event) (before after : Host D)
    : Type 0 where
  pub size : ℕ
  pub log : Become (with_appended Log (take size (writes (state_now before.kept) events)))
      (files_told (told before.dir)) (files_told (told after.dir))
  pub all : (after.stopped ≡ Some cause.Dir)
      ⊎ (length (writes (state_now before.kept) events) ≤ size)

-- Some of the events were made, in order from the first, and then the host stopped.
pub record MakesSome {D : Type 0} (told : D → Told) (events : List Event) (before after : Host D)
    : Type 0 where
  pub made : List Event
  pub rest : List Event
  pub parts : events ≡ made ++ rest
  pub kept : after.kept ≡ with_events made before.kept
  pub keeps : KeepsHistory told after
  pub safe : before.safe ≤ after.safe
  pub ending : after.ending ≡ before.ending
  pub logged : IsLogged told made before after
  pub crash : LeavesOnly (told before.dir) (told after.dir)
      (HoldsFrom (with_events events before.kept) before.safe)

-- what the safe events told client 1
abbrev pub safe_bytes : {D : Type 0} → Host D → List ℕ
safe_bytes host = tells host.kept.opening (take (host.safe - host.kept.first) host.kept.events)

-- Client 1 took these bytes, which the safe events told it; nothing else changed.
pub record Hands {D : Type 0} (told : D → Told) (bytes : List ℕ) (before after : Host D)
    : Type 0 where
  pub same : after ≡ record before { held = after.held }
  pub keeps : KeepsHistory told after
  pub rises : taken_by before ≤ taken_by after
  pub may : open_to after ≡ open_to before
  pub bytes_are : bytes
      ≡ take (taken_by after - taken_by before) (drop (taken_by before) (safe_bytes before))
