-- Serves clauses happens, stops and kept of `DurableHost::step`: how each end of a step leaves the
-- parts.
use Rattle.std.proofs.Common.{◌≡◌, ◌<◌, refl, sym, ap, ap₂, subst, ◌∙◌, ℕ, ◌-◌, ◌^◌, Bool, List, [], ◌++◌, append-nil, Option, Some, None, IfSome, IsSome}
use Rattle.std.specs.Option.{option_map}
use Rattle.std.proofs.lemmas.List.{append_assoc}
use Rattle.std.proofs.lemmas.Option.{none-some}
use Rattle.disk_model.specs.Disk.{Disk}
use Rattle.core_types.specs.declared.event.Event.{Event}
use Rattle.core_types.specs.declared.event.Event.TheVariants as event
use Rattle.core_types.specs.declared.stop.Cause.{Cause}
use Rattle.disk_model.specs.Files.{Files, IsThere}
use Rattle.disk_model.specs.Past.{Call, Outcome, Past, disk_now, files_now}
use Rattle.disk_model.specs.Runs.{LeavesOnly, MayLeave}
use Rattle.disk_model.specs.Safe.{HasFront, IsSafe, IsSafeUpTo}
use Rattle.disk_model.specs.Told.{Told, Goes, Was, disk_told, files_told}
use Rattle.disk_model.specs.declared.file_name.FileName.TheVariants.{Log}
use Rattle.disk_model.proofs.Moments as moments
use Rattle.disk_model.proofs.Safe.{safe_reads, safe_up_to}
use Rattle.disk_model.proofs.Stays.{append_leaves, appended, flushed, sync_leaves}
use Rattle.effect_log.specs.Unit.{unit}
use Rattle.client_book.specs.Register.{listed}
use Rattle.host_core.specs.Clients.{client_at}
use Rattle.host_core.specs.Core.{IsServable}
use Rattle.host_core.specs.Events.{step}
use Rattle.host_core.specs.State.{State}
use Rattle.durable_host.specs.Crash.{HoldsFrom}
use Rattle.durable_host.specs.Host.{AreFreed, Host, KeepsHistory}
use Rattle.durable_host.specs.Kept.{Kept, event_count, state_after, state_now, with_event}
use Rattle.durable_host.specs.Steps.{KeepsOutboxes}
use Rattle.durable_host.specs.Taking.{IsFreed}
use Rattle.durable_host.specs.declared.parts.Parts.{Parts}
use Rattle.durable_host.specs.inner.Running.{IsHistory, IsRunning, LogHolds, kept_of, seen}
use Rattle.durable_host.proofs.Histories.{added_next, added_text, after_next, all_synced, front_holds, holds_further, log_images, next_history, none_added, synced_next, synced_text, text_parts}
use Rattle.durable_host.proofs.Streams.{keeps_freed}

some_none : (why : Cause) → Some why ≡ None → ⊥
some_none why is = none-some why (sym is)

module _ {D : Type 0} (told : D → Told) where
  -- a host that runs keeps its history
  pub keeps : (parts : Parts D) → IsRunning told parts → (ending : Bool) → KeepsHistory told (seen None ending parts)
  keeps parts runs ending = record {
    counted = runs.history.counted;
    begun = runs.history.begun;
    reached = runs.history.reached;
    joined = runs.history.joined;
    runs = λ none. runs.core;
    freed = runs.freed;
    images = log_images (kept_of parts) parts.safe (told parts.dir) runs.history runs.log;
    log = λ none. runs.length;
  }

  -- a host that stopped, and what it keeps
  kept_by : (host : Host D) (kept : Kept) (safe : ℕ) → host.kept ≡ kept → host.safe ≡ safe → IsHistory kept safe → (host.stopped ≡ None → ⊥) → AreFreed kept safe host.held.register
      → ((image : Files) → MayLeave (disk_told (told host.dir)) image → HoldsFrom kept safe image) → KeepsHistory told host
  kept_by host kept safe same same_safe history stopped freed images =
      let host_history : IsHistory host.kept host.safe = subst (λ k. IsHistory k host.safe) (sym same) (subst (IsHistory kept) (sym same_safe) history) in
      record {
        counted = host_history.counted;
        begun = host_history.begun;
        reached = host_history.reached;
        joined = host_history.joined;
        runs = λ none. absurd (stopped none);
        freed = subst (λ k. AreFreed k host.safe host.held.register) (sym same) (subst (λ n. AreFreed kept n host.held.register) (sym same_safe) freed);
        images = subst (λ k. (image : Files) → MayLeave (disk_told (told host.dir)) image → HoldsFrom k host.safe image) (sym same)
            (subst (λ n. (image : Files) → MayLeave (disk_told (told host.dir)) image → HoldsFrom kept n image) (sym same_safe) images);
        log = λ none. absurd (stopped none);
      }

  -- and so does one that stops before anything is asked of the directory
  pub stops_so : (before after : Parts D) → IsRunning told before → kept_of after ≡ kept_of before → after.safe ≡ before.safe → KeepsOutboxes before.core.register after.core.register
      → ((image : Files) → MayLeave (disk_told (told after.dir)) image → HoldsFrom (kept_of before) before.safe image)
      → (why : Cause) (ending : Bool) → KeepsHistory told (seen (Some why) ending after)
  stops_so before after runs kept safe places images why ending =
      kept_by (seen (Some why) ending after) (kept_of before) before.safe kept safe runs.history (some_none why)
      (keeps_freed (λ c. client_at (state_after before.safe (kept_of before)).clients c) before.core.register after.core.register runs.freed places) images

  -- or one whose event is kept, though the log may have a part of it
  pub stops_with : (before after : Parts D) (happens : Event) → IsRunning told before → IsServable happens → event_count (kept_of before) < 2 ^ 64 - 1
      → kept_of after ≡ with_event happens (kept_of before) → after.safe ≡ before.safe → KeepsOutboxes before.core.register after.core.register
      → ((image : Files) → MayLeave (disk_told (told after.dir)) image → HoldsFrom (with_event happens (kept_of before)) before.safe image)
      → (why : Cause) (ending : Bool) → KeepsHistory told (seen (Some why) ending after)
  stops_with before after happens runs servable few kept safe places images why ending =
      let same = after_next (kept_of before) happens before.safe runs.history.reached in
      kept_by (seen (Some why) ending after) (with_event happens (kept_of before)) before.safe kept safe (next_history (kept_of before) happens before.safe runs.history servable few) (some_none why)
      (subst (λ (state : State). (c : ℕ) → IfSome (listed after.core.register c) (IsFreed (client_at state.clients c))) (sym same)
      (keeps_freed (λ c. client_at (state_after before.safe (kept_of before)).clients c) before.core.register after.core.register runs.freed places)) images

-- ---- what is asked of the directory

module _ (kept : Kept) (safe : ℕ) (old new : Told) (history : IsHistory kept safe) (log : LogHolds kept safe old) where
  abbrev synced : List ℕ
  synced = log.base ++ synced_text safe kept

  abbrev added : List ℕ
  added = added_text safe kept

  -- the log is there, and has this length
  of_past : (past : Option Past) → IfSome (option_map disk_now past) (IsSafeUpTo Log synced added) → IsThere Log (option_map files_now past)
  unfolding files_now
  of_past None is = tt
  of_past (Some past) is = subst (λ o. IsSome o) (sym (safe_reads Log synced added (disk_now past) is)) refl

  pub log_there : IsThere Log (files_told old)
  log_there = of_past old.past log.log

  -- nothing is asked of it
  pub asked_nothing : (happens : Event) → new.past ≡ old.past → LeavesOnly old new (HoldsFrom (with_event happens kept) safe)
  asked_nothing happens same =
      moments.no_call old new (HoldsFrom (with_event happens kept) safe) same (λ image may. holds_further kept happens safe image (log_images kept safe old history log image may))

  -- a unit is appended, whatever comes of it
  pub asked_append : (happens : Event) → IsServable happens → event_count kept < 2 ^ 64 - 1
      → Was (Call.Append Log (unit (step (state_now kept) happens).effects)) old new → LeavesOnly old new (HoldsFrom (with_event happens kept) safe)
  asked_append happens servable few was =
      let bytes = unit (step (state_now kept) happens).effects in
      moments.weaker old new (HasFront Log synced (added ++ bytes)) (HoldsFrom (with_event happens kept) safe)
      (append_leaves Log synced added bytes old new was log.log)
      (λ image front. front_holds (with_event happens kept) safe (next_history kept happens safe history servable few) log.base log.holds image
      (rw (synced_next kept happens safe history.begun history.reached, added_next kept happens safe history.begun history.reached) front))

  -- the log is synced, whatever comes of it
  pub asked_sync : Was (Call.Sync Log) old new → LeavesOnly old new (HoldsFrom kept safe)
  asked_sync was =
      moments.weaker old new (HasFront Log synced added) (HoldsFrom kept safe) (sync_leaves Log synced added old new was log.log)
      (λ image front. front_holds kept safe history log.base log.holds image front)

  pub asked_flush : (happens : Event) → Was (Call.Sync Log) old new → LeavesOnly old new (HoldsFrom (with_event happens kept) safe)
  asked_flush happens was =
      moments.weaker old new (HoldsFrom kept safe) (HoldsFrom (with_event happens kept) safe) (asked_sync was) (λ image holds. holds_further kept happens safe image holds)

  -- the log of one more event
  abbrev pub log_appended : (happens : Event) → Goes (Call.Append Log (unit (step (state_now kept) happens).effects)) Outcome.Done old new → LogHolds (with_event happens kept) safe new
  log_appended happens goes = record {
    base = log.base;
    holds = log.holds;
    log = rw (synced_next kept happens safe history.begun history.reached, added_next kept happens safe history.begun history.reached)
        (appended Log synced added (unit (step (state_now kept) happens).effects) old new goes log.log);
  }

  abbrev pub log_same : (happens : Event) → unit (step (state_now kept) happens).effects ≡ [] → new.past ≡ old.past → LogHolds (with_event happens kept) safe new
  log_same happens none same = record {
    base = log.base;
    holds = log.holds;
    log = rw (synced_next kept happens safe history.begun history.reached, added_next kept happens safe history.begun history.reached, none, append-nil added)
        (subst (λ past. IfSome (option_map disk_now past) (IsSafeUpTo Log synced added)) (sym same) log.log);
  }

  -- the log of which all is synced
  pub log_flushed : Goes (Call.Sync Log) Outcome.Done old new → LogHolds (with_event event.Flush kept) (event_count (with_event event.Flush kept)) new
  log_flushed goes =
      let next = with_event event.Flush kept in
      let text : synced_text (event_count next) next ≡ synced_text safe kept ++ added =
      all_synced next ∙ text_parts next safe history.begun
      ∙ ap₂ (λ front back. front ++ back) (synced_next kept event.Flush safe history.begun history.reached)
      (added_next kept event.Flush safe history.begun history.reached ∙ append-nil added) in
      let bytes : log.base ++ synced_text (event_count next) next ≡ synced ++ added =
      ap (λ text. log.base ++ text) text ∙ sym (append_assoc log.base (synced_text safe kept) added) in
      record {
        base = log.base;
        holds = log.holds;
        log = rw (bytes, none_added next) (now_up_to (synced ++ added) (disk_told new) (flushed Log synced added old new goes log.log));
      }
    where
      now_up_to : (bytes : List ℕ) (disk : Option Disk) → IfSome disk (IsSafe Log bytes) → IfSome disk (IsSafeUpTo Log bytes [])
      now_up_to bytes None is = tt
      now_up_to bytes (Some disk) is = safe_up_to Log bytes disk is
