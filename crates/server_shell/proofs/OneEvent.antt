-- Serves clauses made and broken of `serve_event`: one event of a host that goes on, or stops.
use Rattle.std.proofs.Common.{◌≡◌, ◌≤◌, refl, sym, ap, subst, ◌∙◌, ℕ, Bool, true, false, if◌then◌else◌, nat_le, List, [], ◌∷◌, append-nil, Option, Some, None, IsSome, IfSome, take, arith, inl, inr}
use Rattle.std.specs.Option.{option_map}
use Rattle.std.proofs.lemmas.Bool.{false≢true}
use Rattle.std.proofs.Math.Seq.{take-nil}
use Rattle.std.proofs.lemmas.Option.{none-some}
use Rattle.core_types.specs.declared.effect.Effect.{Effect}
use Rattle.core_types.specs.declared.event.Answer.{Answer}
use Rattle.core_types.specs.declared.event.Event.{Event}
use Rattle.core_types.specs.declared.event.Event.TheVariants as event
use Rattle.core_types.specs.declared.stop.Cause.TheVariants as cause
use Rattle.disk_model.specs.Files.{Become, with_appended}
use Rattle.disk_model.specs.Past.{Call, Outcome}
use Rattle.disk_model.specs.Runs.{GoesOnBy, LeavesOnly}
use Rattle.disk_model.specs.Told.{Told, files_told}
use Rattle.disk_model.specs.declared.file_name.FileName.TheVariants.{Log}
use Rattle.disk_model.proofs.Failures.{append_failed, goes_reads, sync_stays, was_done, was_failed}
use Rattle.effect_log.specs.Unit.{unit}
use Rattle.client_book.specs.Register.{Listed, freed, listed}
use Rattle.client_book.specs.declared.client.Client.{Client}
use Rattle.host_core.specs.Clients.{client_at, with_new}
use Rattle.host_core.specs.Events.{client_goes}
use Rattle.host_core.specs.Core.{Held, state_of}
use Rattle.host_core.specs.State.{State, becomes, stays as nothing_done}
use Rattle.host_core.proofs.Rolls.{roll_at}
use Rattle.durable_host.specs.Crash.{HoldsFrom}
use Rattle.durable_host.specs.Host.{Host, KeepsHistory}
use Rattle.durable_host.specs.Kept.{Kept, event_count, state_now, with_event}
use Rattle.durable_host.specs.Steps.{AppendFails, FailsAt, Frees, Happens, KeepsOutboxes, KeepsPlace, Stops, appends, calls_made, changes_by, kept_if_begun, safe_after}
use Rattle.durable_host.specs.Taking.{IsButTaken, taken_of}
use Rattle.durable_host.specs.declared.fault.HostFault.{HostFault}
use Rattle.durable_host.specs.declared.fault.HostFault.TheVariants as fault
use Rattle.durable_host.proofs.Ends.{same_past}
use Rattle.durable_host.proofs.Histories.{count_next, state_next}
use Rattle.durable_host.proofs.Streams.{listed_freed}
use Rattle.server_shell.specs.Faults.{status_of_fault}
use Rattle.server_shell.specs.Making.{MakesAll, MakesSome, taken_by}
use Rattle.server_shell.specs.inner.Stopping.{AsksNothing, StopsOver}
use Rattle.server_shell.specs.Stream.{StaysOn}
use Rattle.server_shell.proofs.Joining.{nothing_appended}
use Rattle.server_shell.proofs.Presence.{stays_there}

-- ---- what client 1 took

client_in : Listed → Client
client_in entry = entry.client

some_mapped : (o : Option Listed) → IsSome o → IsSome (option_map (λ (entry : Listed). entry.client) o)
some_mapped None some = absurd (false≢true some)
some_mapped (Some entry) some = refl

mapped_some : (o : Option Listed) → IsSome (option_map (λ (entry : Listed). entry.client) o) → IsSome o
mapped_some None some = absurd (false≢true some)
mapped_some (Some entry) some = refl

some_full : (o p : Option Client) → IsButTaken o p → IsSome p → IsSome o
some_full None None took some = some
some_full None (Some now) took some = absurd took
some_full (Some full) p took some = refl

some_core : (o p : Option Client) → IsButTaken o p → IsSome o → IsSome p
some_core None p took some = absurd (false≢true some)
some_core (Some full) None took some = absurd took
some_core (Some full) (Some now) took some = refl

keeps_taken : (o p : Option Listed) → (IsSome o → IsSome p) → IfSome p (KeepsPlace o) → taken_of p ≡ taken_of o
keeps_taken None None stays place = refl
keeps_taken None (Some entry) stays place = place.taken
keeps_taken (Some was) None stays place = absurd (false≢true (stays refl))
keeps_taken (Some was) (Some entry) stays place = place.taken

freed_taken : (o : Option Listed) → taken_of (option_map freed o) ≡ taken_of o
freed_taken None = refl
freed_taken (Some entry) = refl

module _ (before after : Held) (stays : IsSome (listed before.register 1) → IsSome (listed after.register 1)) where
  kept_places : KeepsOutboxes before.register after.register → taken_of (listed after.register 1) ≡ taken_of (listed before.register 1)
  kept_places places = keeps_taken (listed before.register 1) (listed after.register 1) stays (places 1)

  frees_taken : (happens : Event) → Frees happens before after → taken_of (listed after.register 1) ≡ taken_of (listed before.register 1)
  frees_taken event.Flush frees =
      ap (λ (held : Held). taken_of (listed held.register 1)) frees ∙ ap taken_of (listed_freed before.register 1) ∙ freed_taken (listed before.register 1)
  frees_taken (event.Join c) frees = kept_places frees
  frees_taken (event.Arrive c words) frees = kept_places frees
  frees_taken (event.Malformed c kind) frees = kept_places frees
  frees_taken (event.Unblock t p) frees = kept_places frees
  frees_taken event.Pump frees = kept_places frees
  frees_taken (event.Tick n) frees = kept_places frees
  frees_taken (event.Gone c) frees = kept_places frees
  frees_taken (event.Section m o) frees = kept_places frees
  frees_taken event.RewriteBegin frees = kept_places frees
  frees_taken event.RewriteStep frees = kept_places frees
  frees_taken event.RewriteEnd frees = kept_places frees

-- ---- the log

appended_by : (bytes : List ℕ) (old new : Told) → GoesOnBy (appends bytes) old new → Become (with_appended Log bytes) (files_told old) (files_told new)
appended_by [] old new goes =
    subst (λ files. Become (with_appended Log []) (files_told old) files) (sym (same_files old new (goes ∙ same_past old.past))) (nothing_appended (files_told old))
  where
    same_files : (old new : Told) → new.past ≡ old.past → files_told new ≡ files_told old
    same_files old new same = ap (λ past. files_told (record { past = past; faults = 0 })) same
appended_by (byte ∷ more) old new goes = goes_reads (Call.Append Log (byte ∷ more)) Outcome.Done old new goes

synced_by : (effects : List Effect) (old new : Told) → effects ≡ [] → GoesOnBy (calls_made event.Flush effects) old new → Become (with_appended Log (unit effects)) (files_told old) (files_told new)
synced_by effects old new none goes =
    subst (λ bytes. Become (with_appended Log bytes) (files_told old) (files_told new)) (sym (ap unit none))
    (subst (λ files. Become (with_appended Log []) (files_told old) files) (sym (sync_stays Log old new (was_done (Call.Sync Log) old new goes))) (nothing_appended (files_told old)))

log_after : (happens : Event) (kept : Kept) (old new : Told) → GoesOnBy (calls_made happens (changes_by happens kept)) old new
    → Become (with_appended Log (unit (changes_by happens kept))) (files_told old) (files_told new)
log_after event.Flush kept old new goes = synced_by (changes_by event.Flush kept) old new refl goes
log_after (event.Join c) kept old new goes = appended_by (unit (changes_by (event.Join c) kept)) old new goes
log_after (event.Arrive c words) kept old new goes = appended_by (unit (changes_by (event.Arrive c words) kept)) old new goes
log_after (event.Malformed c kind) kept old new goes = appended_by (unit (changes_by (event.Malformed c kind) kept)) old new goes
log_after (event.Unblock t p) kept old new goes = appended_by [] old new goes
log_after event.Pump kept old new goes = appended_by [] old new goes
log_after (event.Tick n) kept old new goes = appended_by (unit (changes_by (event.Tick n) kept)) old new goes
log_after (event.Gone c) kept old new goes = appended_by (unit (changes_by (event.Gone c) kept)) old new goes
log_after (event.Section m o) kept old new goes = appended_by [] old new goes
log_after event.RewriteBegin kept old new goes = appended_by [] old new goes
log_after event.RewriteStep kept old new goes = appended_by [] old new goes
log_after event.RewriteEnd kept old new goes = appended_by [] old new goes

-- and where the call failed
front_of : (bytes : List ℕ) (old new : Told) → AppendFails bytes old new → (size : ℕ) × Become (with_appended Log (take size bytes)) (files_told old) (files_told new)
front_of bytes old new fails = append_failed Log bytes old new fails.fails

log_failed : (happens : Event) (effects : List Effect) (old new : Told) → FailsAt happens effects old new → (size : ℕ) × Become (with_appended Log (take size (unit effects))) (files_told old) (files_told new)
log_failed event.Flush effects old new fails =
    (0, subst (λ files. Become (with_appended Log []) (files_told old) files) (sym (sync_stays Log old new (was_failed (Call.Sync Log) old new fails))) (nothing_appended (files_told old)))
log_failed (event.Join c) effects old new fails = front_of (unit effects) old new fails
log_failed (event.Arrive c words) effects old new fails = front_of (unit effects) old new fails
log_failed (event.Malformed c kind) effects old new fails = front_of (unit effects) old new fails
log_failed (event.Unblock t p) effects old new fails = front_of (unit effects) old new fails
log_failed event.Pump effects old new fails = front_of (unit effects) old new fails
log_failed (event.Tick n) effects old new fails = front_of (unit effects) old new fails
log_failed (event.Gone c) effects old new fails = front_of (unit effects) old new fails
log_failed (event.Section m o) effects old new fails = front_of (unit effects) old new fails
log_failed event.RewriteBegin effects old new fails = front_of (unit effects) old new fails
log_failed event.RewriteStep effects old new fails = front_of (unit effects) old new fails
log_failed event.RewriteEnd effects old new fails = front_of (unit effects) old new fails

-- ---- how many events are safe

safe_rises : (happens : Event) (kept : Kept) (safe : ℕ) → safe ≤ event_count kept → safe ≤ safe_after happens kept safe
safe_rises event.Flush kept safe few = few
safe_rises (event.Join c) kept safe few = omega arith
safe_rises (event.Arrive c words) kept safe few = omega arith
safe_rises (event.Malformed c kind) kept safe few = omega arith
safe_rises (event.Unblock t p) kept safe few = omega arith
safe_rises event.Pump kept safe few = omega arith
safe_rises (event.Tick n) kept safe few = omega arith
safe_rises (event.Gone c) kept safe few = omega arith
safe_rises (event.Section m o) kept safe few = omega arith
safe_rises event.RewriteBegin kept safe few = omega arith
safe_rises event.RewriteStep kept safe few = omega arith
safe_rises event.RewriteEnd kept safe few = omega arith

-- ---- what asks nothing of the directory

coming : (t : Bool) (refusal : Answer) (state next : State) → (if t then nothing_done refusal state else becomes next).effects ≡ []
coming true refusal state next = refl
coming false refusal state next = refl

going : (c : ℕ) (o : Option Client) (state : State) → (client_goes c o state).effects ≡ []
going c None state = refl
going c (Some client) state = refl

-- a client's coming and going ask nothing of the directory, so it can't fail
no_call : (happens : Event) (kept : Kept) (old new : Told) → AsksNothing happens → FailsAt happens (changes_by happens kept) old new → ⊥
no_call (event.Join c) kept old new silent fails =
    let state = state_now kept in
    fails.some (ap unit (coming (nat_le c state.clients.last) _ state (record state { clients = with_new c state.clients })))
no_call (event.Gone c) kept old new silent fails =
    let state = state_now kept in fails.some (ap unit (going c (client_at state.clients c) state))
no_call event.Flush kept old new silent fails = absurd silent
no_call (event.Arrive c words) kept old new silent fails = absurd silent
no_call (event.Malformed c kind) kept old new silent fails = absurd silent
no_call (event.Unblock t p) kept old new silent fails = absurd silent
no_call event.Pump kept old new silent fails = absurd silent
no_call (event.Tick n) kept old new silent fails = absurd silent
no_call (event.Section m o) kept old new silent fails = absurd silent
no_call event.RewriteBegin kept old new silent fails = absurd silent
no_call event.RewriteStep kept old new silent fails = absurd silent
no_call event.RewriteEnd kept old new silent fails = absurd silent

-- ---- the event

module _ {D : Type 0} (told : D → Told) (before after : Host D) (happens : Event) (ran : before.stopped ≡ None) (had : KeepsHistory told before) (keeps : KeepsHistory told after)
    (crash : LeavesOnly (told before.dir) (told after.dir) (HoldsFrom (with_event happens before.kept) before.safe)) where
  module _ (answer : Answer) (happened : Happens told happens answer before after) where
    stays : StaysOn happens → IsSome (listed before.held.register 1) → IsSome (listed after.held.register 1)
    stays stays_on some =
        let core_before : IsSome (client_at (state_of before.held).clients 1) = subst IsSome (sym (roll_at before.held.register 1)) (some_mapped (listed before.held.register 1) some) in
        let full_before : IsSome (client_at (state_now before.kept).clients 1) =
        some_full (client_at (state_now before.kept).clients 1) (client_at (state_of before.held).clients 1) ((had.runs ran).each 1) core_before in
        let full_after : IsSome (client_at (state_now after.kept).clients 1) =
        subst (λ (state : State). IsSome (client_at state.clients 1)) (sym (ap state_now happened.kept ∙ state_next before.kept happens))
        (stays_there 1 (state_now before.kept) happens stays_on full_before) in
        mapped_some (listed after.held.register 1) (subst IsSome (roll_at after.held.register 1)
        (some_core (client_at (state_now after.kept).clients 1) (client_at (state_of after.held).clients 1) ((keeps.runs happened.runs).each 1) full_after))

    pub taken_one : StaysOn happens → taken_by after ≡ taken_by before
    taken_one stays_on = frees_taken before.held after.held (stays stays_on) happens happened.frees

    pub made_one : MakesAll told (happens ∷ []) before after
    made_one = record {
      runs = happened.runs;
      kept = happened.kept;
      keeps = keeps;
      safe = subst (λ n. before.safe ≤ n) (sym happened.safe)
          (safe_rises happens after.kept before.safe (subst (λ k. before.safe ≤ event_count k) (sym happened.kept) (omega (arith, had.reached, count_next before.kept happens))));
      log = subst (λ text. Become (with_appended Log text) (files_told (told before.dir)) (files_told (told after.dir))) (sym (append-nil (unit (changes_by happens before.kept))))
          (log_after happens before.kept (told before.dir) (told after.dir) happened.calls);
      crash = crash;
      ending = happened.ending;
    }

  -- none of it is kept, or all of it
  nothing_kept : after.ending ≡ before.ending → after.kept ≡ before.kept → before.safe ≤ after.safe → Become (with_appended Log []) (files_told (told before.dir)) (files_told (told after.dir)) → MakesSome told (happens ∷ []) before after
  nothing_kept ending kept safe log = record {
    made = [];
    rest = happens ∷ [];
    parts = refl;
    kept = kept ∙ sym (ap (λ events. record before.kept { events = events }) (append-nil before.kept.events));
    keeps = keeps;
    safe = safe;
    ending = ending;
    logged = record { size = 0; log = log; all = inr (omega arith) };
    crash = crash;
  }

  all_kept : after.ending ≡ before.ending → after.stopped ≡ Some cause.Dir → after.kept ≡ with_event happens before.kept → before.safe ≤ after.safe
      → (size : ℕ) × Become (with_appended Log (take size (unit (changes_by happens before.kept)))) (files_told (told before.dir)) (files_told (told after.dir)) → MakesSome told (happens ∷ []) before after
  all_kept ending stopped kept safe front = record {
    made = happens ∷ [];
    rest = [];
    parts = refl;
    kept = kept;
    keeps = keeps;
    safe = safe;
    ending = ending;
    logged = record {
      size = front.0;
      log = subst (λ text. Become (with_appended Log (take front.0 text)) (files_told (told before.dir)) (files_told (told after.dir))) (sym (append-nil (unit (changes_by happens before.kept)))) front.1;
      all = inl stopped;
    };
    crash = crash;
  }

  if_begun : after.ending ≡ before.ending → after.stopped ≡ Some cause.Dir → (effects : List Effect) → changes_by happens before.kept ≡ effects → after.kept ≡ kept_if_begun effects happens before.kept → before.safe ≤ after.safe
      → (size : ℕ) × Become (with_appended Log (take size (unit effects))) (files_told (told before.dir)) (files_told (told after.dir)) → MakesSome told (happens ∷ []) before after
  if_begun ending stopped [] are kept safe front =
      nothing_kept ending kept safe (subst (λ text. Become (with_appended Log text) (files_told (told before.dir)) (files_told (told after.dir))) (take-nil front.0) front.1)
  if_begun ending stopped (effect ∷ more) are kept safe front =
      all_kept ending stopped kept safe (front.0, subst (λ effects. Become (with_appended Log (take front.0 (unit effects))) (files_told (told before.dir)) (files_told (told after.dir))) (sym are) front.1)

  same_dir : after.dir ≡ before.dir → Become (with_appended Log []) (files_told (told before.dir)) (files_told (told after.dir))
  same_dir same = subst (λ dir. Become (with_appended Log []) (files_told (told before.dir)) (files_told (told dir))) (sym same) (nothing_appended (files_told (told before.dir)))

  pub why_one : (why : HostFault) → Stops told why happens before after → StopsOver happens (status_of_fault why)
  why_one fault.Dir stops = record { host = tt; own = λ silent. absurd (no_call happens before.kept (told before.dir) (told after.dir) silent stops.fails) }
  why_one fault.Memory stops = record { host = tt; own = λ silent. tt }
  why_one fault.NumbersSpent stops = record { host = tt; own = λ silent. tt }
  why_one (fault.Stopped why) stops = absurd (none-some why (sym ran ∙ stops.0))

  pub broken_one : (why : HostFault) → Stops told why happens before after → MakesSome told (happens ∷ []) before after
  broken_one fault.Dir stops =
      if_begun stops.stops.ending stops.stops.stops (changes_by happens before.kept) refl stops.kept (omega (arith, stops.stops.safe))
      (log_failed happens (changes_by happens before.kept) (told before.dir) (told after.dir) stops.fails)
  broken_one fault.Memory stops = nothing_kept stops.stops.ending stops.kept (omega (arith, stops.stops.safe)) (same_dir stops.dir)
  broken_one fault.NumbersSpent stops = nothing_kept stops.0.stops.ending stops.0.kept (omega (arith, stops.0.stops.safe)) (same_dir stops.0.dir)
  broken_one (fault.Stopped why) stops = absurd (none-some why (sym ran ∙ stops.0))
