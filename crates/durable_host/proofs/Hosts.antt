-- Serves the clauses of `DurableHost`: the parts of a host, seen as the host.
use Rattle.std.proofs.Common.{◌≡◌, ◌≤◌, refl, sym, ap, subst, ◌∙◌, ℕ, ◌+◌, Bool, false, List, ◌++◌, length, take, drop, length-take-le, take-take, Option, Some, None, IfSome, arith, inl, inr}
use Rattle.std.specs.Option.{option_map}
use Rattle.std.proofs.lemmas.List.{take-append-le}
use Rattle.std.proofs.lemmas.Option.{none-some}
use Rattle.core_types.specs.declared.stop.Cause.{Cause}
use Rattle.core_types.specs.declared.stop.Stop.TheVariants as stop
use Rattle.disk_model.specs.Past.{Past, disk_now, files_now}
use Rattle.disk_model.specs.Safe.{IsSafeUpTo}
use Rattle.disk_model.specs.Told.{Told, files_told}
use Rattle.disk_model.specs.declared.file_name.FileName.TheVariants.{Log}
use Rattle.disk_model.proofs.Safe.{safe_reads}
use Rattle.effect_log.specs.Replay.{Holds}
use Rattle.restart.specs.OpenLog.{HasOpened, OpenStops}
use Rattle.restart.specs.Restart.{Restarts}
use Rattle.restart.specs.declared.opening.OpenStop.{OpenStop}
use Rattle.restart.specs.declared.opening.OpenStop.TheVariants as stops
use Rattle.restart.specs.declared.opening.Opened.{Opened}
use Rattle.restart.proofs.Crash.{log_restarts}
use Rattle.restart.proofs.SameDisk.{same_files}
use Rattle.core_types.specs.Keys.{Keys}
use Rattle.client_book.specs.Client.{passes}
use Rattle.client_book.specs.Register.{changes, free_of, listed, told_of}
use Rattle.host_core.specs.Clients.{client_at}
use Rattle.host_core.specs.Replay.{replay}
use Rattle.durable_host.specs.Host.{HandsOut, Host, KeepsHistory}
use Rattle.durable_host.specs.Kept.{state_after, state_now}
use Rattle.durable_host.specs.Starts.{StartStops}
use Rattle.durable_host.specs.Taking.{stream_between, taken_of}
use Rattle.durable_host.specs.declared.parts.Parts.{Parts}
use Rattle.durable_host.specs.inner.Running.{IsRunning, IsSound, kept_of, seen}
use Rattle.durable_host.proofs.Histories.{added_text, after_all_parts, synced_text}
use Rattle.durable_host.proofs.Running.{keeps}
use Rattle.durable_host.proofs.Streams.{handed_out, take_freed, take_fronts, take_same, told_enough}

module _ {D : Type 0} (told : D → Told) where
  -- whether the host is to end does not matter
  still : (why : Cause) (parts : Parts D) (one other : Bool) → KeepsHistory told (seen (Some why) one parts) → KeepsHistory told (seen (Some why) other parts)
  still why parts one other keeps = record {
    counted = keeps.counted;
    begun = keeps.begun;
    reached = keeps.reached;
    joined = keeps.joined;
    runs = keeps.runs;
    freed = keeps.freed;
    images = keeps.images;
    log = keeps.log;
  }

  -- sound parts are a host that keeps its history
  pub sound_keeps : (stopped : Option Cause) (ending : Bool) (parts : Parts D) → IsSound told stopped parts → KeepsHistory told (seen stopped ending parts)
  sound_keeps None ending parts sound = keeps told parts sound ending
  sound_keeps (Some why) ending parts sound = still why parts false ending sound

  -- a client took some of what it may take
  module _ (parts : Parts D) (client count : ℕ) (few : count ≤ free_of (listed parts.core.register client)) where
    abbrev after : Parts D
    after = record parts { core = record parts.core { register = changes (passes count) client parts.core.register } }

    takes_running : IsRunning told parts → IsRunning told after
    takes_running runs = record {
      history = runs.history;
      core = take_same (state_now (kept_of parts)) parts.core client count few runs.fronts runs.core;
      freed = take_freed (λ c. client_at (state_after parts.safe (kept_of parts)).clients c) client count parts.core.register few runs.freed;
      fronts = take_fronts client count parts.core.register few runs.fronts;
      log = runs.log;
      length = runs.length;
    }

    takes_stopped : (why : Cause) → KeepsHistory told (seen (Some why) false parts) → KeepsHistory told (seen (Some why) false after)
    takes_stopped why keeps = record {
      counted = keeps.counted;
      begun = keeps.begun;
      reached = keeps.reached;
      joined = keeps.joined;
      runs = λ none. absurd (none-some why (sym none));
      freed = take_freed (λ c. client_at (state_after parts.safe (kept_of parts)).clients c) client count parts.core.register few keeps.freed;
      images = keeps.images;
      log = keeps.log;
    }

    pub takes_sound : (stopped : Option Cause) → IsSound told stopped parts → IsSound told stopped after
    takes_sound None sound = takes_running sound
    takes_sound (Some why) sound = takes_stopped why sound

  -- what is handed out was told by the safe events
  pub hands_out : (host : Host D) → KeepsHistory told host → (client count : ℕ) (bytes : List ℕ) → count ≤ free_of (listed host.held.register client) → length bytes ≡ count
      → bytes ≡ take count (told_of (listed host.held.register client)) → HandsOut host client bytes
  hands_out host keeps client count bytes few size is =
      is ∙ handed_out (client_at (state_after host.safe host.kept).clients client) (listed host.held.register client) count few (keeps.freed client)
      ∙ ap (λ n. stream_between (taken_of (listed host.held.register client)) (taken_of (listed host.held.register client) + n) (client_at (state_after host.safe host.kept).clients client)) (sym size)

  -- what is moved is the front of what it may take
  pub front_moved : (host : Host D) → KeepsHistory told host → (client count : ℕ) (old new : List ℕ) → count ≤ free_of (listed host.held.register client)
      → new ≡ take count (told_of (listed host.held.register client)) ++ drop count old
      → (length (take count new) ≡ count) × (take count new ≡ take count (told_of (listed host.held.register client)))
  front_moved host keeps client count old new few moved =
      let bytes = told_of (listed host.held.register client) in
      let enough : count ≤ length bytes = told_enough (client_at (state_after host.safe host.kept).clients client) (listed host.held.register client) count few (keeps.freed client) in
      let size : length (take count bytes) ≡ count = length-take-le count bytes enough in
      let is : take count new ≡ take count bytes =
      ap (take count) moved ∙ take-append-le count (take count bytes) (drop count old) (omega (arith, size)) ∙ take-take count count bytes (omega arith) in
      (ap length is ∙ size, is)

  -- the directory of a host that runs restarts to its keys
  closed_at : (past : Option Past) (synced added : List ℕ) (keys : Keys) → Holds replay (synced ++ added) keys (length (synced ++ added))
      → IfSome (option_map disk_now past) (IsSafeUpTo Log synced added) → IfSome (option_map files_now past) (λ files. Restarts replay files keys)
  unfolding files_now
  closed_at None synced added keys holds safe = tt
  closed_at (Some past) synced added keys holds safe =
      log_restarts replay (files_now past) (synced ++ added) (length (synced ++ added)) keys (safe_reads Log synced added (disk_now past) safe) holds

  pub closes : (parts : Parts D) → IsRunning told parts → IfSome (files_told (told parts.dir)) (λ files. Restarts replay files parts.core.keys)
  closes parts runs =
      closed_at (told parts.dir).past (runs.log.base ++ synced_text parts.safe (kept_of parts)) (added_text parts.safe (kept_of parts)) parts.core.keys
      (subst (λ keys. Holds replay ((runs.log.base ++ synced_text parts.safe (kept_of parts)) ++ added_text parts.safe (kept_of parts)) keys
      (length ((runs.log.base ++ synced_text parts.safe (kept_of parts)) ++ added_text parts.safe (kept_of parts)))) (sym runs.core.keys)
      (after_all_parts (kept_of parts) parts.safe runs.history runs.log.base runs.log.holds)) runs.log.log

-- ---- a start

-- want of memory is the one stop of a loader
pub start_stops : (why : OpenStop) (old new : Told) → (why ≡ stops.Stopped stop.NumbersSpent → ⊥) → OpenStops replay why old new → StartStops why old new
start_stops (stops.LogRefused at place reason) old new unspent is = is
start_stops stops.NotBuilt old new unspent is = is
start_stops stops.Dir old new unspent is = is
start_stops (stops.Stopped stop.Memory) old new unspent is = (refl, inl (same_files old new is))
start_stops (stops.Stopped stop.NumbersSpent) old new unspent is = absurd (unspent refl)

-- memory ran out once the log was open
pub stops_opened : (old new : Told) (keys : Keys) (opened : Opened) → HasOpened replay old new keys opened → StartStops (stops.Stopped stop.Memory) old new
stops_opened old new keys opened opens = (refl, inr (opens.finds.opening, record { opens = opens.finds.opens; log = opens.log }))
