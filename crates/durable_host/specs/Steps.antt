-- What a step of a host does, by how it is answered.
use Rattle.std.specs.Prelude.{◌≡◌, ◌≢◌, ◌⊎◌, ◌-◌, ◌^◌, ℕ, List, [], ◌∷◌, Option, Some, None, IfSome}
use Rattle.core_types.specs.declared.effect.Effect.{Effect}
use Rattle.core_types.specs.declared.event.Answer.{Answer}
use Rattle.core_types.specs.declared.event.Event.{Event}
use Rattle.core_types.specs.declared.event.Event.TheVariants as event
use Rattle.core_types.specs.declared.stop.Cause.{Cause}
use Rattle.core_types.specs.declared.stop.Cause.TheVariants as cause
use Rattle.disk_model.specs.Past.{Call, Made, Outcome}
use Rattle.disk_model.specs.Runs.{GoesOnBy}
use Rattle.disk_model.specs.Told.{Fails, Told}
use Rattle.disk_model.specs.declared.file_name.FileName.TheVariants.{Log}
use Rattle.effect_log.specs.Unit.{unit}
use Rattle.client_book.specs.Register.{Listed, Register, frees_all, listed, roll_of}
use Rattle.host_core.specs.Core.{Held, IsServable, may_of, state_of}
use Rattle.host_core.specs.Events.{step}
use Rattle.durable_host.specs.Host.{Host}
use Rattle.durable_host.specs.Kept.{Kept, event_count, state_now, with_event}
use Rattle.durable_host.specs.Taking.{free_bytes, taken_of}
use Rattle.durable_host.specs.declared.fault.HostFault.{HostFault}
use Rattle.durable_host.specs.declared.fault.HostFault.TheVariants as fault

-- an event as it may come: as for the core, and none of a rewrite, which a host does not know yet
abbrev pub IsTakable : Event → Type 0
IsTakable event.RewriteBegin = ⊥
IsTakable event.RewriteStep = ⊥
IsTakable event.RewriteEnd = ⊥
IsTakable event = IsServable event

-- ---- what clients took and may take

-- what is listed of a client has the places that were listed before, and the bytes between them
pub record KeepsPlace (before : Option Listed) (entry : Listed) : Type 0 where
  pub taken : entry.client.from ≡ taken_of before
  pub may : entry.may ≡ may_of before
  pub bytes : free_bytes (Some entry) ≡ free_bytes before

-- each client that is there afterwards took what it had taken, and may take what it could take
abbrev pub KeepsOutboxes : Register → Register → Type 0
KeepsOutboxes before after =
    (client : ℕ) → IfSome (listed after client) (KeepsPlace (listed before client))

-- a Flush frees all that was told; nothing else frees anything
abbrev pub Frees : Event → Held → Held → Type 0
Frees event.Flush before after = after ≡ record before { register = frees_all before.register }
Frees other before after = KeepsOutboxes before.register after.register

-- after a Flush all events are safe, itself among them; nothing else makes one safe
abbrev pub safe_after : Event → Kept → ℕ → ℕ
safe_after event.Flush kept safe = event_count kept
safe_after other kept safe = safe

-- ---- the directory

-- bytes are appended to the log, where there are any
abbrev pub appends : List ℕ → List Made
appends [] = []
appends (byte ∷ more) =
    record { call = Call.Append Log (byte ∷ more); outcome = Outcome.Done } ∷ []

-- an append of these bytes, of which there is one, failed
pub record AppendFails (bytes : List ℕ) (old new : Told) : Type 0 where
  pub some : bytes ≢ []
  pub fails : Fails (Call.Append Log bytes) old new

-- A Flush syncs the log once. Another event appends the unit of its changes, and syncs nothing.
abbrev pub calls_made : Event → List Effect → List Made
calls_made event.Flush effects = record { call = Call.Sync Log; outcome = Outcome.Done } ∷ []
calls_made other effects = appends (unit effects)

-- ---- the answers

-- the changes that an event makes of what the kept ones led to
abbrev pub changes_by : Event → Kept → List Effect
changes_by event kept = (step (state_now kept) event).effects

-- The event happened: it is the last that is kept, and the host goes on.
pub record Happens {D : Type 0} (told : D → Told) (event : Event) (answer : Answer)
    (before after : Host D) : Type 0 where
  pub ran : before.stopped ≡ None
  pub runs : after.stopped ≡ None
  pub kept : after.kept ≡ with_event event before.kept
  pub answered : answer ≡ (step (state_now before.kept) event).answer
  pub frees : Frees event before.held after.held
  pub safe : after.safe ≡ safe_after event after.kept before.safe
  pub calls : GoesOnBy (calls_made event (changes_by event before.kept)) (told before.dir)
      (told after.dir)
  pub ending : after.ending ≡ before.ending

-- the clients are as before, or as the event leaves them
abbrev pub ClientsOrNext : Event → Held → Held → Type 0
ClientsOrNext event before after =
    (after.register ≡ before.register)
    ⊎ (roll_of after.register ≡ (step (state_of before) event).state.clients)

-- The host stopped, for this cause. What was safe stays so, and what was freed can be taken.
pub record StopsBy {D : Type 0} (why : Cause) (event : Event) (before after : Host D)
    : Type 0 where
  pub ran : before.stopped ≡ None
  pub stops : after.stopped ≡ Some why
  pub safe : after.safe ≡ before.safe
  pub places : KeepsOutboxes before.held.register after.held.register
  pub clients : ClientsOrNext event before.held after.held
  pub log_length : after.log_length ≡ before.log_length
  pub ending : after.ending ≡ before.ending

-- and nothing was asked of the directory, and nothing is kept of the event
pub record StopsAtOnce {D : Type 0} (why : Cause) (event : Event) (before after : Host D)
    : Type 0 where
  pub stops : StopsBy why event before after
  pub kept : after.kept ≡ before.kept
  pub dir : after.dir ≡ before.dir

-- The one call that was made failed: a Flush's sync, or the append of a unit that has bytes.
abbrev pub FailsAt : Event → List Effect → Told → Told → Type 0
FailsAt event.Flush effects old new = Fails (Call.Sync Log) old new
FailsAt other effects old new = AppendFails (unit effects) old new

-- an event that has changes is kept, since some of them may be in the log
abbrev pub kept_if_begun : List Effect → Event → Kept → Kept
kept_if_begun [] event kept = kept
kept_if_begun (effect ∷ more) event kept = with_event event kept

-- and the directory failed
pub record StopsInDir {D : Type 0} (told : D → Told) (event : Event) (before after : Host D)
    : Type 0 where
  pub stops : StopsBy cause.Dir event before after
  pub kept : after.kept ≡ kept_if_begun (changes_by event before.kept) event before.kept
  pub fails : FailsAt event (changes_by event before.kept) (told before.dir) (told after.dir)

-- Why an event was not done to its end, and how that left the host.
abbrev pub Stops : {D : Type 0} → (D → Told) → HostFault → Event → Host D → Host D → Type 0
Stops told fault.Dir event before after = StopsInDir told event before after
Stops told fault.Memory event before after = StopsAtOnce cause.Memory event before after
Stops told fault.NumbersSpent event before after =
    StopsAtOnce cause.NumbersSpent event before after × (event_count before.kept ≡ 2 ^ 64 - 1)
Stops told (fault.Stopped why) event before after = (before.stopped ≡ Some why) × (after ≡ before)
