-- What a host is seen as, and what holds of it at every moment between two calls.
use Rattle.std.specs.Prelude.{refl, ◌≡◌, ◌<◌, ◌≤◌, ◌+◌, ◌^◌, ℕ, Bool, List, length, Option, None, IfSome}
use Rattle.std.specs.Coded.{Coded, code_by, coded×, coded_bool, coded_list, coded_option, coded_ℕ}
use Rattle.core_types.specs.contracts.event.Event as event
use Rattle.core_types.specs.contracts.stop.Cause as cause
use Rattle.core_types.specs.declared.event.Event.{Event}
use Rattle.core_types.specs.declared.stop.Cause.{Cause}
use Rattle.disk_model.specs.Files.{Files}
use Rattle.disk_model.specs.Runs.{MayLeave}
use Rattle.disk_model.specs.Told.{Told, disk_told, files_told}
use Rattle.client_book.specs.Register.{Register, listed}
use Rattle.host_core.specs.Clients.{client_at}
use Rattle.host_core.specs.Core.{Held, held_code, state_code, state_of}
use Rattle.host_core.specs.Laws.{AllJoined}
use Rattle.host_core.specs.State.{State}
use Rattle.durable_host.specs.Crash.{HoldsFrom}
use Rattle.durable_host.specs.Kept.{Kept, event_count, state_after, state_now}
use Rattle.durable_host.specs.Taking.{IsFreed, SameButTaken, stream_between, taken_of}

-- `safe` is a number of events, from the first: those that every restart has. `held` is what the
-- core holds.
pub record Host (D : Type 0) : Type 0 where
  pub kept : Kept
  pub safe : ℕ
  pub held : Held
  pub dir : D
  pub log_length : ℕ
  pub stopped : Option Cause
  pub ending : Bool

-- a host is stored as its fields, one after the other
abbrev pub kept_code : Coded Kept
kept_code =
    code_by (ℕ × (State × List Event)) (coded× coded_ℕ (coded× state_code (coded_list event.the_row.coded)))
    (λ k. (k.first, (k.opening, k.events)))
    (λ p. record { first = p.0; opening = p.1.0; events = p.1.1 }) (λ _. refl)

abbrev pub host_code : {D : Type 0} → Coded D → Coded (Host D)
host_code {D} code =
    code_by (Kept × (ℕ × (Held × (D × (ℕ × (Option Cause × Bool))))))
    (coded× kept_code (coded× coded_ℕ (coded× held_code (coded× code (coded× coded_ℕ
    (coded× (coded_option cause.the_row.coded) coded_bool))))))
    (λ h. (h.kept, (h.safe, (h.held, (h.dir, (h.log_length, (h.stopped, h.ending)))))))
    (λ p. record {
      kept = p.0;
      safe = p.1.0;
      held = p.1.1.0;
      dir = p.1.1.1.0;
      log_length = p.1.1.1.1.0;
      stopped = p.1.1.1.1.1.0;
      ending = p.1.1.1.1.1.1;
    }) (λ _. refl)

-- what each client may take was told it by the first events, this many
abbrev pub AreFreed : Kept → ℕ → Register → Type 0
AreFreed kept safe register =
    (client : ℕ)
    → IfSome (listed register client) (IsFreed (client_at (state_after safe kept).clients client))

-- the log has this length, where it is told
abbrev pub HasLength : ℕ → Told → Type 0
HasLength size told =
    IfSome (files_told told) (λ files. IfSome files.log (λ bytes. length bytes ≡ size))

-- What holds at every moment. The events are fewer than 2^64. Where the host has not stopped, its
-- core is what the kept events made of the opening, but for what clients took, and the length of
-- the log is known. What a client may take was told it by the safe events. Whatever a crash now
-- leaves restarts to the keys after some of the events, and at least the safe ones.
pub record KeepsHistory {D : Type 0} (told : D → Told) (host : Host D) : Type 0 where
  pub counted : event_count host.kept < 2 ^ 64
  pub begun : host.kept.first ≤ host.safe
  pub reached : host.safe ≤ event_count host.kept
  pub joined : AllJoined host.kept.opening
  pub runs : host.stopped ≡ None → SameButTaken (state_now host.kept) (state_of host.held)
  pub freed : AreFreed host.kept host.safe host.held.register
  pub images : (image : Files) → MayLeave (disk_told (told host.dir)) image
      → HoldsFrom host.kept host.safe image
  pub log : host.stopped ≡ None → HasLength host.log_length (told host.dir)

-- These bytes are what the safe events told a client, from the place up to which it had taken.
abbrev pub HandsOut : {D : Type 0} → Host D → ℕ → List ℕ → Type 0
HandsOut host client bytes =
    let stream = client_at (state_after host.safe host.kept).clients client in
    let taken = taken_of (listed host.held.register client) in
    bytes ≡ stream_between taken (taken + length bytes) stream
