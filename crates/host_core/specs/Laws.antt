-- What holds of every step, and of every run of a machine.
use Rattle.std.specs.Prelude.{◌≡◌, ◌<◌, ◌≤◌, ⊤, ℕ, Bool, false, List, [], ◌++◌, length, max, Option, Some, None, Ok, Err}
use Rattle.std.specs.List.{AllByRecursion}
use Rattle.sequences.specs.Words.{word}
use Rattle.core_types.specs.Keys.{Keys, Native}
use Rattle.core_types.specs.Keyspace.{IsKeyspace}
use Rattle.core_types.specs.declared.effect.Effect.{Effect}
use Rattle.core_types.specs.declared.event.Event.{Event}
use Rattle.core_types.specs.declared.event.Event.TheVariants as event
use Rattle.effect_log.specs.Refusal.{Refusal}
use Rattle.effect_log.specs.Replay.{replayed}
use Rattle.effect_log.specs.Unit.{IsLoggable}
use Rattle.key_store.specs.NextDue.{next_due}
use Rattle.client_book.specs.Client.{passes}
use Rattle.client_book.specs.declared.client.Client.{Client}
use Rattle.host_core.specs.declared.builtin.Builtin.{Builtin}
use Rattle.host_core.specs.Builtins.{builtin_named, builtin_row}
use Rattle.host_core.specs.Clients.{changed, client_at}
use Rattle.host_core.specs.Events.{step}
use Rattle.host_core.specs.Fold.{after, bytes_to, effects, said}
use Rattle.host_core.specs.Replay.{replay}
use Rattle.host_core.specs.State.{State, Step}

-- every client that is there joined
abbrev pub AllJoined : State → Type 0
AllJoined state = (client : ℕ) → state.clients.last < client → client_at state.clients client ≡ None

-- what a client that stays is told by a step is what was replied to it, behind what it was told
-- before
pub record IsTold (was now : Client) (bytes : List ℕ) : Type 0 where
  pub from : now.from ≡ was.from
  pub told : now.told ≡ was.told ++ bytes

abbrev pub TellsReplies : State → Event → Type 0
TellsReplies state event =
    (client : ℕ) (was now : Client) → client_at state.clients client ≡ Some was →
    client_at (step state event).state.clients client ≡ Some now →
    IsTold was now (bytes_to client (step state event).out)

-- nobody is replied to who is not there
abbrev pub RepliesToNobody : State → Event → Type 0
RepliesToNobody state event =
    (client : ℕ) → client_at state.clients client ≡ None
    → bytes_to client (step state event).out ≡ []

-- a client took this many bytes of its replies
abbrev pub with_taken : ℕ → ℕ → State → State
with_taken client count state =
    record state { clients = changed (passes count) client state.clients }

-- a step does not look at what a client took
pub record StepsApart (client count : ℕ) (state : State) (event : Event) : Type 0 where
  pub state_after :
      (step (with_taken client count state) event).state
      ≡ with_taken client count (step state event).state
  pub out : (step (with_taken client count state) event).out ≡ (step state event).out
  pub effects : (step (with_taken client count state) event).effects ≡ (step state event).effects
  pub answer : (step (with_taken client count state) event).answer ≡ (step state event).answer

-- a client has at least this many bytes that it did not take
pub record CanTake (client count : ℕ) (state : State) : Type 0 where
  pub record_there : Client
  pub there : client_at state.clients client ≡ Some record_there
  pub enough : count ≤ length record_there.told

-- after a step the keys are such as they may be, and a log can hold each of its changes
pub record KeepsLimits (allowed : Native → Bool) (state : State) (event : Event) : Type 0 where
  pub keys : IsKeyspace allowed (step state event).state.keys
  pub effects : AllByRecursion IsLoggable (step state event).effects

-- the changes of a step, in order, make its keys of the keys before it
abbrev pub RemakesKeys : State → Event → Type 0
RemakesKeys state event =
    replayed replay state.keys (step state event).effects ≡ Ok (step state event).state.keys

-- once the clock has shown a moment, no key is due at it, nor at one that it showed before
abbrev pub LeavesNoneDue : State → ℕ → Type 0
LeavesNoneDue state shown =
    next_due (step state (event.Tick shown)).state.keys (max state.moment shown) ≡ None

-- each command is found by its name
abbrev pub AllAreKnown : Type 0
AllAreKnown = (cmd : Builtin) → builtin_named (builtin_row cmd).name ≡ Some cmd

-- a command of this name may not stand in a log
abbrev pub IsNoChange : Option Builtin → Type 0
IsNoChange None = ⊤
IsNoChange (Some cmd) = (builtin_row cmd).writes ≡ false

-- what is no command, or may not stand in a log, is no effect, whatever the keys are
abbrev pub RefusesOthers : Keys → Effect → Type 0
RefusesOthers keys effect =
    IsNoChange (builtin_named (word 0 effect.words)) → replay keys effect ≡ Err Refusal.NotAnEffect

-- a run of two lists, one after the other, is the run of the first and then of the second
pub record GoesOn {S Event : Type 0} (step : S → Event → Step S) (state : S)
    (first second : List Event)
    : Type 0 where
  pub state_after : after step state (first ++ second) ≡ after step (after step state first) second
  pub bytes : (client : ℕ) → said step state (first ++ second) client
      ≡ said step state first client ++ said step (after step state first) second client
  pub changes : effects step state (first ++ second)
      ≡ effects step state first ++ effects step (after step state first) second
