-- Serves clauses well and wrong of `Parts::make`: each end of a step.
use Rattle.std.proofs.Common.{◌≡◌, ◌≢◌, ◌<◌, refl, sym, ap, ap₂, subst, ◌∙◌, ℕ, ◌+◌, ◌-◌, ◌^◌, min, Bool, List, [], ◌∷◌, ◌++◌, length, take, length-append, append-nil, Option, Some, None, IfSome, arith, inl, inr}
use Rattle.std.specs.Option.{option_map, option_to_list}
use Rattle.std.proofs.lemmas.List.{append_assoc}
use Rattle.std.proofs.lemmas.Option.{none-some}
use Rattle.std.proofs.Math.Seq.{take-append_seam}
use Rattle.core_types.specs.declared.stop.Cause.{Cause}
use Rattle.core_types.specs.declared.stop.Cause.TheVariants as cause
use Rattle.core_types.specs.declared.effect.Effect.{Effect}
use Rattle.core_types.specs.declared.event.Answer.TheVariants as answer
use Rattle.core_types.specs.declared.event.Event.{Event}
use Rattle.core_types.specs.declared.event.Event.TheVariants as event
use Rattle.disk_model.specs.Files.{Files, HasFew, IsSmall}
use Rattle.disk_model.specs.Past.{Call, Made, Outcome, Past, disk_now, files_now, with_calls}
use Rattle.disk_model.specs.Runs.{GoesOnBy, LeavesOnly, MayLeave}
use Rattle.disk_model.specs.Safe.{IsSafeUpTo}
use Rattle.disk_model.specs.Told.{Told, Fails, Goes, disk_told, files_told}
use Rattle.disk_model.specs.declared.file_name.FileName.TheVariants.{Log}
use Rattle.disk_model.proofs.Failures.{sync_stays, was_done, was_failed}
use Rattle.disk_model.proofs.Moments as moments
use Rattle.disk_model.proofs.Safe.{safe_reads}
use Rattle.effect_log.specs.Unit.{unit}
use Rattle.client_book.specs.Register.{frees_all, listed}
use Rattle.host_core.specs.Clients.{client_at}
use Rattle.host_core.specs.Core.{Held, IsServable, state_of}
use Rattle.host_core.specs.Events.{step}
use Rattle.host_core.specs.Laws.{AllJoined}
use Rattle.host_core.specs.State.{State}
use Rattle.client_book.specs.declared.client.Client.{Client}
use Rattle.durable_host.specs.Crash.{HoldsFrom}
use Rattle.durable_host.specs.Host.{HasLength, KeepsHistory}
use Rattle.durable_host.specs.Kept.{Kept, event_count, state_after, state_now, with_event}
use Rattle.durable_host.specs.Steps.{AppendFails, ClientsOrNext, FailsAt, Frees, IsTakable, KeepsOutboxes, appends, calls_made, changes_by, kept_if_begun, safe_after}
use Rattle.durable_host.specs.Taking.{IsButTaken, IsFreed, SameButTaken}
use Rattle.durable_host.specs.declared.computing.Computed.{Computed}
use Rattle.durable_host.specs.declared.fault.HostFault.TheVariants as fault
use Rattle.durable_host.specs.declared.parts.Parts.{Parts}
use Rattle.durable_host.specs.inner.Making.{Computes, GoesWell, GoesWrong, IsLogged}
use Rattle.durable_host.specs.inner.Running.{AreFronts, IsHistory, IsRunning, LogHolds, kept_of, seen}
use Rattle.durable_host.proofs.Histories.{added_next, added_text, after_next, all_after, count_next, joined_now, log_images, next_history, state_next, synced_next, synced_text}
use Rattle.durable_host.proofs.Running.{asked_append, asked_nothing, asked_sync, log_appended, log_flushed, log_same, stops_so, stops_with}
use Rattle.durable_host.proofs.Streams.{flush_freed, flush_rolls, freed_fronts, keeps_freed, same_places}
use Rattle.durable_host.proofs.Takes.{SameStep, same_step}

-- ---- an event that is no Flush

module _ (kept : Kept) (before after : Held) (safe : ℕ) (effects : List Effect) (old new : Told) where
  logged_frees : (happens : Event) → IsLogged happens → KeepsOutboxes before.register after.register → Frees happens before after
  logged_frees event.Flush is places = absurd is
  logged_frees (event.Join c) is places = places
  logged_frees (event.Arrive c words) is places = places
  logged_frees (event.Malformed c kind) is places = places
  logged_frees (event.Unblock t p) is places = places
  logged_frees event.Pump is places = places
  logged_frees (event.Tick n) is places = places
  logged_frees (event.Gone c) is places = places
  logged_frees (event.Section m o) is places = places
  logged_frees event.RewriteBegin is places = absurd is
  logged_frees event.RewriteStep is places = absurd is
  logged_frees event.RewriteEnd is places = absurd is

  logged_safe : (happens : Event) → IsLogged happens → safe_after happens kept safe ≡ safe
  logged_safe event.Flush is = absurd is
  logged_safe (event.Join c) is = refl
  logged_safe (event.Arrive c words) is = refl
  logged_safe (event.Malformed c kind) is = refl
  logged_safe (event.Unblock t p) is = refl
  logged_safe event.Pump is = refl
  logged_safe (event.Tick n) is = refl
  logged_safe (event.Gone c) is = refl
  logged_safe (event.Section m o) is = refl
  logged_safe event.RewriteBegin is = absurd is
  logged_safe event.RewriteStep is = absurd is
  logged_safe event.RewriteEnd is = absurd is

  logged_calls : (happens : Event) → IsLogged happens → calls_made happens effects ≡ appends (unit effects)
  logged_calls event.Flush is = absurd is
  logged_calls (event.Join c) is = refl
  logged_calls (event.Arrive c words) is = refl
  logged_calls (event.Malformed c kind) is = refl
  logged_calls (event.Unblock t p) is = refl
  logged_calls event.Pump is = refl
  logged_calls (event.Tick n) is = refl
  logged_calls (event.Gone c) is = refl
  logged_calls (event.Section m o) is = refl
  logged_calls event.RewriteBegin is = absurd is
  logged_calls event.RewriteStep is = absurd is
  logged_calls event.RewriteEnd is = absurd is

  logged_fails : (happens : Event) → IsLogged happens → AppendFails (unit effects) old new → FailsAt happens effects old new
  logged_fails event.Flush is fails = absurd is
  logged_fails (event.Join c) is fails = fails
  logged_fails (event.Arrive c words) is fails = fails
  logged_fails (event.Malformed c kind) is fails = fails
  logged_fails (event.Unblock t p) is fails = fails
  logged_fails event.Pump is fails = fails
  logged_fails (event.Tick n) is fails = fails
  logged_fails (event.Gone c) is fails = fails
  logged_fails (event.Section m o) is fails = fails
  logged_fails event.RewriteBegin is fails = absurd is
  logged_fails event.RewriteStep is fails = absurd is
  logged_fails event.RewriteEnd is fails = absurd is

pub logged_servable : (happens : Event) → IsLogged happens → IsServable happens
logged_servable event.Flush is = absurd is
logged_servable (event.Join c) is = is
logged_servable (event.Arrive c words) is = is
logged_servable (event.Malformed c kind) is = is
logged_servable (event.Unblock t p) is = is
logged_servable event.Pump is = is
logged_servable (event.Tick n) is = is
logged_servable (event.Gone c) is = is
logged_servable (event.Section m o) is = is
logged_servable event.RewriteBegin is = absurd is
logged_servable event.RewriteStep is = absurd is
logged_servable event.RewriteEnd is = absurd is

-- an event that may be taken is a Flush or is logged
pub other_logged : (happens : Event) → IsTakable happens → (happens ≡ event.Flush → ⊥) → IsLogged happens
other_logged event.Flush is other = absurd (other refl)
other_logged (event.Join c) is other = is
other_logged (event.Arrive c words) is other = is
other_logged (event.Malformed c kind) is other = is
other_logged (event.Unblock t p) is other = is
other_logged event.Pump is other = is
other_logged (event.Tick n) is other = is
other_logged (event.Gone c) is other = is
other_logged (event.Section m o) is other = is
other_logged event.RewriteBegin is other = is
other_logged event.RewriteStep is other = is
other_logged event.RewriteEnd is other = is

kept_where_begun : (effects : List Effect) (happens : Event) (kept : Kept) → unit effects ≢ [] → kept_if_begun effects happens kept ≡ with_event happens kept
kept_where_begun [] happens kept some = absurd (some refl)
kept_where_begun (effect ∷ more) happens kept some = refl

-- ---- the kept events

pub same_kept : (kept : Kept) (events : List Event) {others : List Event} → events ≡ others → (record kept { events = events }) ≡ record kept { events = others }
same_kept kept events is = ap (λ events. record kept { events = events }) is

no_event : (old : List Event) (happens : Event) → old ++ happens ∷ [] ≡ [] → ⊥
no_event old happens is = absurd (omega (arith, ap length is, length-append old (happens ∷ [])))

-- the event that was added last is taken out again
pub popped : (old pushed left : List Event) (happens : Event) (o : Option Event) → pushed ≡ old ++ happens ∷ [] → pushed ≡ left ++ option_to_list o → (o ≡ None → pushed ≡ []) → left ≡ old
popped old pushed left happens None push pop none = absurd (no_event old happens (sym push ∙ none refl))
popped old pushed left happens (Some last) push pop none =
    let same : left ++ last ∷ [] ≡ old ++ happens ∷ [] = sym pop ∙ push in
    let size : length left ≡ length old = omega (arith, ap length same, length-append left (last ∷ []), length-append old (happens ∷ [])) in
    sym (take-append_seam left (last ∷ [])) ∙ ap₂ (λ n list. take n list) size same ∙ take-append_seam old (happens ∷ [])

-- who is in the core joined
none_left : (o : Option Client) → IsButTaken None o → o ≡ None
none_left None took = refl
none_left (Some client) took = absurd took

pub joined_core : (kept : Kept) (safe : ℕ) (held : Held) → IsHistory kept safe → SameButTaken (state_now kept) (state_of held) → AllJoined (state_of held)
joined_core kept safe held history same client above =
    none_left (client_at (state_of held).clients client)
    (subst (λ o. IsButTaken o (client_at (state_of held).clients client)) (joined_now kept safe history client (omega (arith, above, same.last))) (same.each client))

-- ---- the log behind an append, where there was one

pub same_past : (before : Option Past) → option_map (with_calls []) before ≡ before
same_past None = refl
same_past (Some past) = ap (λ made. Some (record past { made = made })) (append-nil past.made)

module _ (kept : Kept) (safe : ℕ) (old new : Told) (history : IsHistory kept safe) (log : LogHolds kept safe old) (happens : Event) where
  abbrev text : List ℕ
  text = unit (step (state_now kept) happens).effects

  abbrev log_of : (bytes : List ℕ) → text ≡ bytes → GoesOnBy (appends bytes) old new → LogHolds (with_event happens kept) safe new
  log_of [] none goes = log_same kept safe old new history log happens none (goes ∙ same_past old.past)
  log_of (byte ∷ more) some goes = log_appended kept safe old new history log happens (subst (λ bytes. Goes (Call.Append Log bytes) Outcome.Done old new) (sym some) goes)

  abbrev pub log_goes : GoesOnBy (appends text) old new → LogHolds (with_event happens kept) safe new
  log_goes goes = log_of text refl goes

  base_of : (bytes : List ℕ) (is : text ≡ bytes) (goes : GoesOnBy (appends bytes) old new) → (log_of bytes is goes).base ≡ log.base
  base_of [] none goes = refl
  base_of (byte ∷ more) some goes = refl

  pub same_base : (goes : GoesOnBy (appends text) old new) → (log_goes goes).base ≡ log.base
  same_base goes = base_of text refl goes

  asked_of : (bytes : List ℕ) → text ≡ bytes → IsServable happens → event_count kept < 2 ^ 64 - 1 → GoesOnBy (appends bytes) old new → LeavesOnly old new (HoldsFrom (with_event happens kept) safe)
  asked_of [] none servable few goes = asked_nothing kept safe old new history log happens (goes ∙ same_past old.past)
  asked_of (byte ∷ more) some servable few goes =
      asked_append kept safe old new history log happens servable few
      (was_done (Call.Append Log text) old new (subst (λ bytes. Goes (Call.Append Log bytes) Outcome.Done old new) (sym some) goes))

  pub asked_done : IsServable happens → event_count kept < 2 ^ 64 - 1 → GoesOnBy (appends text) old new → LeavesOnly old new (HoldsFrom (with_event happens kept) safe)
  asked_done servable few goes = asked_of text refl servable few goes

-- the length of a log of these bytes
sized : (synced added : List ℕ) (size : ℕ) (past : Option Past) → IfSome (option_map disk_now past) (IsSafeUpTo Log synced added)
    → ((bytes : List ℕ) → bytes ≡ synced ++ added → length bytes ≡ size) → IfSome (option_map files_now past) (λ files. IfSome files.log (λ bytes. length bytes ≡ size))
unfolding files_now
sized synced added size None safe is = tt
sized synced added size (Some past) safe is =
    subst (λ o. IfSome o (λ bytes. length bytes ≡ size)) (sym (safe_reads Log synced added (disk_now past) safe)) (is (synced ++ added) refl)

-- a log that was appended to, where it is told
length_next : (s a s' a' : List ℕ) (size n : ℕ) (more : List Made) (before now : Option Past) → now ≡ option_map (with_calls more) before
    → IfSome (option_map disk_now before) (IsSafeUpTo Log s a) → IfSome (option_map disk_now now) (IsSafeUpTo Log s' a')
    → IfSome (option_map files_now before) (λ files. IfSome files.log (λ bytes. length bytes ≡ size))
    → (IsSmall Log (option_map files_now before) → IsSmall Log (option_map files_now now)) → size < 2 ^ 64 → length (s' ++ a') ≡ length (s ++ a) + n
    → IfSome (option_map files_now now) (λ files. IfSome files.log (λ bytes. length bytes ≡ min (size + n) (2 ^ 64 - 1)))
unfolding files_now
length_next s a s' a' size n more before None goes safe safe' had small few longer = tt
length_next s a s' a' size n more None (Some now) goes safe safe' had small few longer = absurd (none-some now (sym goes))
length_next s a s' a' size n more (Some before) (Some now) goes safe safe' had small few longer =
    let reads_old = safe_reads Log s a (disk_now before) safe in
    let reads_new = safe_reads Log s' a' (disk_now now) safe' in
    let old_size : length (s ++ a) ≡ size = subst (λ o. IfSome o (λ bytes. length bytes ≡ size)) reads_old had in
    let small_now : length (s' ++ a') < 2 ^ 64 = subst HasFew reads_new (small (subst HasFew (sym reads_old) (omega (arith, old_size, few)))) in
    sized s' a' (min (size + n) (2 ^ 64 - 1)) (Some now) safe' (λ bytes is. omega (arith, ap length is, small_now, longer, old_size))

-- ---- the ends

module _ {D : Type 0} (told : D → Told) (before after : Parts D) (runs : IsRunning told before) where
  -- nothing was asked of the directory, and nothing is kept
  module _ (happens : Event) (kept : kept_of after ≡ kept_of before) (safe : after.safe ≡ before.safe) (dir : after.dir ≡ before.dir)
      (log_length : after.log_length ≡ before.log_length) (places : KeepsOutboxes before.core.register after.core.register) (clients : ClientsOrNext happens before.core after.core) where
    still : (why : Cause) (ending : Bool) → KeepsHistory told (seen (Some why) ending after)
    still = stops_so told before after runs kept safe places
        (subst (λ d. (image : Files) → MayLeave (disk_told (told d)) image → HoldsFrom (kept_of before) before.safe image) (sym dir)
        (log_images (kept_of before) before.safe (told before.dir) runs.history runs.log))

    pub wrong_memory : GoesWrong told happens fault.Memory before after
    wrong_memory = record {
      stops = λ ending. record {
        stops = record { ran = refl; stops = refl; safe = safe; places = places; clients = clients; log_length = log_length; ending = refl };
        kept = kept;
        dir = dir;
      };
      kept = still cause.Memory;
    }

    pub wrong_numbers : event_count (kept_of before) ≡ 2 ^ 64 - 1 → GoesWrong told happens fault.NumbersSpent before after
    wrong_numbers spent = record {
      stops = λ ending. (
        record {
          stops = record { ran = refl; stops = refl; safe = safe; places = places; clients = clients; log_length = log_length; ending = refl };
          kept = kept;
          dir = dir;
        },
        spent,
      );
      kept = still cause.NumbersSpent;
    }

  -- the sync of a Flush failed, and the event was taken back
  pub wrong_flush : kept_of after ≡ kept_of before → after.safe ≡ before.safe → after.log_length ≡ before.log_length → after.core ≡ before.core
      → Fails (Call.Sync Log) (told before.dir) (told after.dir) → GoesWrong told event.Flush fault.Dir before after
  wrong_flush kept safe log_length core fails =
      let places : KeepsOutboxes before.core.register after.core.register = subst (λ (held : Held). KeepsOutboxes before.core.register held.register) (sym core) (same_places before.core.register) in
      let left = asked_sync (kept_of before) before.safe (told before.dir) (told after.dir) runs.history runs.log (was_failed (Call.Sync Log) (told before.dir) (told after.dir) fails) in
      record {
        stops = λ ending. record {
          stops = record { ran = refl; stops = refl; safe = safe; places = places; clients = inl (ap (λ (held : Held). held.register) core); log_length = log_length; ending = refl };
          kept = kept;
          fails = fails;
        };
        kept = stops_so told before after runs kept safe places (moments.now (told before.dir) (told after.dir) (HoldsFrom (kept_of before) before.safe) left) cause.Dir;
      }

  -- the log was synced
  pub well_flush : kept_of after ≡ with_event event.Flush (kept_of before) → event_count (kept_of before) < 2 ^ 64 - 1
      → after.safe ≡ event_count (kept_of after) → after.core ≡ record before.core { register = frees_all before.core.register } → after.log_length ≡ before.log_length
      → Goes (Call.Sync Log) Outcome.Done (told before.dir) (told after.dir) → GoesWell told event.Flush answer.Done before after
  well_flush kept few safe core log_length goes =
      let next = next_history (kept_of before) event.Flush before.safe runs.history tt few in
      let now : state_now (kept_of after) ≡ state_now (kept_of before) = ap state_now kept ∙ state_next (kept_of before) event.Flush in
      let all : state_after after.safe (kept_of after) ≡ state_now (kept_of before) = ap (λ n. state_after n (kept_of after)) safe ∙ all_after (kept_of after) ∙ now in
      record {
        happens = λ ending. record {
          ran = refl;
          runs = refl;
          kept = kept;
          answered = refl;
          frees = core;
          safe = safe;
          calls = goes;
          ending = refl;
        };
        running = record {
          history = at_safe (λ n. IsHistory (kept_of after) n) (at_kept (λ k. IsHistory k (event_count k)) (record {
            counted = next.counted;
            begun = omega (arith, runs.history.begun, runs.history.reached, count_next (kept_of before) event.Flush);
            reached = omega arith;
            joined = next.joined;
            limits = next.limits;
            loggable = next.loggable;
          }));
          core = subst (λ (state : State). SameButTaken state (state_of after.core)) (sym now) (subst (λ (held : Held). SameButTaken (state_now (kept_of before)) (state_of held)) (sym core) (flushed_core runs.core));
          freed = λ c. subst (λ (held : Held). IfSome (listed held.register c) (IsFreed (client_at (state_after after.safe (kept_of after)).clients c))) (sym core)
              (subst (λ (state : State). IfSome (listed (frees_all before.core.register) c) (IsFreed (client_at state.clients c))) (sym all) (flush_freed (state_now (kept_of before)) before.core runs.core c));
          fronts = subst (λ (held : Held). AreFronts held.register) (sym core) (freed_fronts before.core.register runs.fronts);
          log = at_safe (λ n. LogHolds (kept_of after) n (told after.dir)) (at_kept (λ k. LogHolds k (event_count k) (told after.dir))
              (log_flushed (kept_of before) before.safe (told before.dir) (told after.dir) runs.history runs.log goes));
          length = subst (λ n. HasLength n (told after.dir)) (sym log_length) (subst (λ files. IfSome files (λ known. IfSome known.log (λ bytes. length bytes ≡ before.log_length)))
              (sym (sync_stays Log (told before.dir) (told after.dir) (was_done (Call.Sync Log) (told before.dir) (told after.dir) goes))) runs.length);
        };
      }
    where
      at_kept : (P : Kept → Type 0) → P (with_event event.Flush (kept_of before)) → P (kept_of after)
      at_kept P holds = subst P (sym kept) holds

      at_safe : (P : ℕ → Type 0) → P (event_count (kept_of after)) → P after.safe
      at_safe P holds = subst P (sym safe) holds

      flushed_core : SameButTaken (state_now (kept_of before)) (state_of before.core) → SameButTaken (state_now (kept_of before)) (state_of (record before.core { register = frees_all before.core.register }))
      flushed_core same = record {
        keys = same.keys;
        moment = same.moment;
        last = same.last;
        each = λ c. rw (flush_rolls before.core.register c) (same.each c);
      }

  -- ---- an event that is logged

  module _ (happens : Event) (logged : IsLogged happens) (few : event_count (kept_of before) < 2 ^ 64 - 1)
      (computed : Computed) (made : Computes happens before.core computed after.core)
      (kept : kept_of after ≡ with_event happens (kept_of before)) (safe : after.safe ≡ before.safe)
      (places : KeepsOutboxes before.core.register after.core.register) where
    abbrev effects : List Effect
    effects = changes_by happens (kept_of before)

    same : SameStep (step (state_now (kept_of before)) happens) (step (state_of before.core) happens)
    same = same_step (state_now (kept_of before)) (state_of before.core) happens runs.core

    pub unit_is : computed.unit ≡ unit effects
    unit_is = made.unit ∙ ap unit same.effects

    next : IsHistory (with_event happens (kept_of before)) before.safe
    next = next_history (kept_of before) happens before.safe runs.history (logged_servable happens logged) few

    pub asked_failed : AppendFails computed.unit (told before.dir) (told after.dir) → LeavesOnly (told before.dir) (told after.dir) (HoldsFrom (with_event happens (kept_of before)) before.safe)
    asked_failed fails =
        let failed : AppendFails (unit effects) (told before.dir) (told after.dir) = subst (λ bytes. AppendFails bytes (told before.dir) (told after.dir)) unit_is fails in
        asked_append (kept_of before) before.safe (told before.dir) (told after.dir) runs.history runs.log happens (logged_servable happens logged) few
        (was_failed (Call.Append Log (unit effects)) (told before.dir) (told after.dir) failed.fails)

    pub asked_well : GoesOnBy (appends computed.unit) (told before.dir) (told after.dir) → LeavesOnly (told before.dir) (told after.dir) (HoldsFrom (with_event happens (kept_of before)) before.safe)
    asked_well asked =
        asked_done (kept_of before) before.safe (told before.dir) (told after.dir) runs.history runs.log happens (logged_servable happens logged) few
        (subst (λ bytes. GoesOnBy (appends bytes) (told before.dir) (told after.dir)) unit_is asked)

    -- its append failed
    pub wrong_append : after.log_length ≡ before.log_length → AppendFails computed.unit (told before.dir) (told after.dir) → GoesWrong told happens fault.Dir before after
    wrong_append log_length fails =
        let failed : AppendFails (unit effects) (told before.dir) (told after.dir) = subst (λ bytes. AppendFails bytes (told before.dir) (told after.dir)) unit_is fails in
        let left = asked_append (kept_of before) before.safe (told before.dir) (told after.dir) runs.history runs.log happens (logged_servable happens logged) few
        (was_failed (Call.Append Log (unit effects)) (told before.dir) (told after.dir) failed.fails) in
        record {
          stops = λ ending. record {
            stops = record { ran = refl; stops = refl; safe = safe; places = places; clients = inr (ap (λ (state : State). state.clients) made.state); log_length = log_length; ending = refl };
            kept = kept ∙ sym (kept_where_begun effects happens (kept_of before) failed.some);
            fails = logged_fails (kept_of before) before.core after.core before.safe effects (told before.dir) (told after.dir) happens logged failed;
          };
          kept = stops_with told before after happens runs (logged_servable happens logged) few kept safe places
              (moments.now (told before.dir) (told after.dir) (HoldsFrom (with_event happens (kept_of before)) before.safe) left) cause.Dir;
        }

    -- it was appended, where there was anything to append
    pub well_append : GoesOnBy (appends computed.unit) (told before.dir) (told after.dir)
        → (IsSmall Log (files_told (told before.dir)) → IsSmall Log (files_told (told after.dir)))
        → before.log_length < 2 ^ 64 → after.log_length ≡ min (before.log_length + length computed.unit) (2 ^ 64 - 1) → GoesWell told happens computed.answer before after
    well_append asked small few_bytes log_length =
        let goes : GoesOnBy (appends (unit effects)) (told before.dir) (told after.dir) = subst (λ bytes. GoesOnBy (appends bytes) (told before.dir) (told after.dir)) unit_is asked in
        let log = log_goes (kept_of before) before.safe (told before.dir) (told after.dir) runs.history runs.log happens goes in
        let now : state_now (kept_of after) ≡ (step (state_now (kept_of before)) happens).state = ap state_now kept ∙ state_next (kept_of before) happens in
        record {
          happens = λ ending. record {
            ran = refl;
            runs = refl;
            kept = kept;
            answered = made.answer ∙ same.answer;
            frees = logged_frees (kept_of before) before.core after.core before.safe effects (told before.dir) (told after.dir) happens logged places;
            safe = safe ∙ sym (logged_safe (kept_of after) before.core after.core before.safe effects (told before.dir) (told after.dir) happens logged);
            calls = subst (λ calls. GoesOnBy calls (told before.dir) (told after.dir))
                (sym (logged_calls (kept_of before) before.core after.core before.safe effects (told before.dir) (told after.dir) happens logged)) goes;
            ending = refl;
          };
          running = record {
            history = at_kept IsHistory next;
            core = subst (λ (state : State). SameButTaken state (state_of after.core)) (sym now) (subst (λ (state : State). SameButTaken (step (state_now (kept_of before)) happens).state state) (sym made.state) same.state);
            freed = at_kept (λ k n. (c : ℕ) → IfSome (listed after.core.register c) (IsFreed (client_at (state_after n k).clients c)))
                (subst (λ (state : State). (c : ℕ) → IfSome (listed after.core.register c) (IsFreed (client_at state.clients c))) (sym (after_next (kept_of before) happens before.safe runs.history.reached))
                (keeps_freed (λ c. client_at (state_after before.safe (kept_of before)).clients c) before.core.register after.core.register runs.freed places));
            fronts = made.fronts;
            log = at_kept (λ k n. LogHolds k n (told after.dir)) log;
            length = subst (λ n. HasLength n (told after.dir)) (sym (log_length ∙ ap (λ bytes. min (before.log_length + length bytes) (2 ^ 64 - 1)) unit_is)) (length_next
                (runs.log.base ++ synced_text before.safe (kept_of before)) (added_text before.safe (kept_of before))
                (log.base ++ synced_text before.safe (with_event happens (kept_of before))) (added_text before.safe (with_event happens (kept_of before)))
                before.log_length (length (unit effects)) (appends (unit effects)) (told before.dir).past (told after.dir).past goes
                runs.log.log log.log runs.length small few_bytes
                (longer log.base (same_base (kept_of before) before.safe (told before.dir) (told after.dir) runs.history runs.log happens goes)));
          };
        }
      where
        at_kept : (P : Kept → ℕ → Type 0) → P (with_event happens (kept_of before)) before.safe → P (kept_of after) after.safe
        at_kept P holds = subst (λ k. P k after.safe) (sym kept) (subst (P (with_event happens (kept_of before))) (sym safe) holds)

        longer : (base : List ℕ) → base ≡ runs.log.base → length ((base ++ synced_text before.safe (with_event happens (kept_of before))) ++ added_text before.safe (with_event happens (kept_of before)))
            ≡ length ((runs.log.base ++ synced_text before.safe (kept_of before)) ++ added_text before.safe (kept_of before)) + length (unit effects)
        longer base is =
            let synced = synced_next (kept_of before) happens before.safe runs.history.begun runs.history.reached in
            let added = added_next (kept_of before) happens before.safe runs.history.begun runs.history.reached in
            ap length (ap₂ (λ front back. front ++ back) (ap₂ (λ front back. front ++ back) is synced) added
            ∙ sym (append_assoc (runs.log.base ++ synced_text before.safe (kept_of before)) (added_text before.safe (kept_of before)) (unit effects)))
            ∙ length-append ((runs.log.base ++ synced_text before.safe (kept_of before)) ++ added_text before.safe (kept_of before)) (unit effects)
