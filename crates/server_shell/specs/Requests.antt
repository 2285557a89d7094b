-- What serving some events does: all of them, or some of them.
use Rattle.std.specs.Prelude.{◌≡◌, ◌≤◌, ℕ, List, [], ◌∷◌, ◌++◌, length, take, Option}
use Rattle.std.specs.Io.KnownBytes.{Appends}
use Rattle.core_types.specs.declared.event.Event.{Event}
use Rattle.disk_model.specs.Files.{Become, with_appended}
use Rattle.disk_model.specs.Runs.{LeavesOnly}
use Rattle.disk_model.specs.Told.{Told, files_told}
use Rattle.disk_model.specs.declared.file_name.FileName.TheVariants.{Log}
use Rattle.io_edges.specs.Told.{ClockTold, Gave}
use Rattle.durable_host.specs.Crash.{HoldsFrom}
use Rattle.durable_host.specs.Host.{Host, KeepsHistory}
use Rattle.durable_host.specs.Kept.{state_now}
use Rattle.server_shell.specs.Making.{IsLogged, safe_bytes, tells, with_events, writes}
use Rattle.server_shell.specs.Stream.{IsCaughtUp}

-- They were served: all of them were made, what they told client 1 was sent, and the log goes on
-- with what they wrote. No safe event is lost, whenever a crash comes.
pub record Serves {D : Type 0} (told : D → Told) (events : List Event) (before after : Host D)
    (got got' : Option (List ℕ)) : Type 0 where
  pub kept : after.kept ≡ with_events events before.kept
  pub caught_up : IsCaughtUp told after
  pub safe : before.safe ≤ after.safe
  pub ending : after.ending ≡ before.ending
  pub log : Become (with_appended Log (writes (state_now before.kept) events))
      (files_told (told before.dir)) (files_told (told after.dir))
  pub crash : LeavesOnly (told before.dir) (told after.dir)
      (HoldsFrom (with_events events before.kept) before.safe)
  pub sent : Appends got got' (tells (state_now before.kept) events)

-- They were served, and client 1 may be gone since: the safe events told it all that was sent.
pub record ServesToEnd {D : Type 0} (told : D → Told) (events : List Event) (before after : Host D)
    (got got' : Option (List ℕ)) : Type 0 where
  pub kept : after.kept ≡ with_events events before.kept
  pub keeps : KeepsHistory told after
  pub safe : before.safe ≤ after.safe
  pub ending : after.ending ≡ before.ending
  pub log : Become (with_appended Log (writes (state_now before.kept) events))
      (files_told (told before.dir)) (files_told (told after.dir))
  pub crash : LeavesOnly (told before.dir) (told after.dir)
      (HoldsFrom (with_events events before.kept) before.safe)
  pub sent : Appends got got' (tells (state_now before.kept) events)
  pub count : ℕ
  pub safely : tells after.kept.opening after.kept.events ≡ take count (safe_bytes after)

-- The first events were served: what they wrote is in the log, and what they told was sent. Of
-- those behind them some were made, in order, and of what they told a front was sent. The safe
-- events told all that was sent.
pub record ServesPart {D : Type 0} (told : D → Told) (done within : List Event)
    (before after : Host D) (got got' : Option (List ℕ)) : Type 0 where
  pub made : List Event
  pub rest : List Event
  pub parts : within ≡ made ++ rest
  pub kept : after.kept ≡ with_events (done ++ made) before.kept
  pub keeps : KeepsHistory told after
  pub safe : before.safe ≤ after.safe
  pub ending : after.ending ≡ before.ending
  pub logged : IsLogged told (done ++ made) before after
  pub whole : length (writes (state_now before.kept) done) ≤ logged.size
  pub crash : LeavesOnly (told before.dir) (told after.dir)
      (HoldsFrom (with_events (done ++ within) before.kept) before.safe)
  pub bytes : List ℕ
  pub sent : Appends got got' (tells (state_now before.kept) done ++ bytes)
  pub count : ℕ
  pub safely : tells before.kept.opening before.kept.events
      ++ (tells (state_now before.kept) done ++ bytes) ≡ take count (safe_bytes after)

-- at a moment that the clock gave
abbrev pub AtMoment : ClockTold → ClockTold → (ℕ → Type 0) → Type 0
AtMoment old new P = (moment : ℕ) × Gave (moment ∷ []) old new × P moment
