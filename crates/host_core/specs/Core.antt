-- What the core of a host holds, and what a step makes of it.
use Rattle.std.specs.Prelude.{◌≡◌, ◌<◌, ◌≤◌, refl, ⊤, ℕ, List, [], false, Option, Some, None, IsSome}
use Rattle.std.specs.Coded.{Coded, code_by, coded×, coded_ℕ, coded_list}
use Rattle.std.specs.FinMap as finite
use Rattle.core_types.specs.Keys.{Keys, Native}
use Rattle.core_types.specs.Keyspace.{IsString}
use Rattle.core_types.specs.declared.event.Event.{Event}
use Rattle.core_types.specs.declared.event.Event.TheVariants as event
use Rattle.core_types.specs.declared.tagged.Tagged.{Tagged}
use Rattle.core_types.specs.contracts.tagged.Tagged as tagged
use Rattle.resp_codec.specs.Spelling.{IsRequest}
use Rattle.client_book.specs.Register.{Listed, Register, Roll, listed, register_code, roll_code, roll_of}
use Rattle.key_store.specs.Codes.{bytes_code, entry_code}
use Rattle.host_core.specs.Events.{step}
use Rattle.host_core.specs.State.{State, Step}
use Rattle.host_core.specs.declared.stepped.Stepped.{Stepped}

-- the keys, the moment in milliseconds, and for each client its record and up to where it may take
-- its replies
pub record Held : Type 0 where
  pub keys : Keys
  pub moment : ℕ
  pub register : Register

abbrev pub native_code : Coded Native
native_code =
    code_by (List ℕ × List Tagged) (coded× bytes_code (coded_list (tagged.the_row).coded))
    (λ n. (n.name, n.items)) (λ p. record { name = p.0; items = p.1 }) (λ _. refl)

abbrev pub keys_code : Coded Keys
keys_code = finite.code bytes_code (entry_code native_code)

abbrev pub held_code : Coded Held
held_code =
    code_by (Keys × (ℕ × Register)) (coded× keys_code (coded× coded_ℕ register_code))
    (λ h. (h.keys, (h.moment, h.register)))
    (λ p. record { keys = p.0; moment = p.1.0; register = p.1.1 }) (λ _. refl)

abbrev pub state_code : Coded State
state_code =
    code_by (Keys × (ℕ × Roll)) (coded× keys_code (coded× coded_ℕ roll_code))
    (λ s. (s.keys, (s.moment, s.clients)))
    (λ p. record { keys = p.0; moment = p.1.0; clients = p.1.1 }) (λ _. refl)

-- as the machine has it, which knows nothing of what a client may take
abbrev pub state_of : Held → State
state_of held =
    record { keys = held.keys; moment = held.moment; clients = roll_of held.register }

-- an event as it may come: the words of a request are such as a stream can spell, and a text for a
-- module is a string
abbrev pub IsServable : Event → Type 0
IsServable (event.Arrive client words) = IsRequest words
IsServable (event.Section place text) = IsString text
IsServable _ = ⊤

-- a client comes whose number is not above all that joined
abbrev pub IsTurnedAway : Event → Register → Type 0
IsTurnedAway (event.Join client) register = client ≤ register.last
IsTurnedAway _ register = ⊥

-- up to where a client may take its replies; one that is not there has none
abbrev pub may_of : Option Listed → ℕ
may_of None = 0
may_of (Some entry) = entry.may

-- no client that is there may take more or less than before
abbrev pub KeepsPlaces : Register → Register → Type 0
KeepsPlaces before after =
    (client : ℕ) → IsSome (listed after client)
    → may_of (listed after client) ≡ may_of (listed before client)

-- a step of the machine was made: what was told is held, and may not be taken yet
pub record Makes (before : Held) (next : Step State) (stepped : Stepped)
    (after : Held) : Type 0 where
  pub state : state_of after ≡ next.state
  pub out : stepped.out ≡ next.out
  pub effects : stepped.effects ≡ next.effects
  pub answer : stepped.answer ≡ next.answer
  pub fresh : stepped.fresh ≡ []
  pub save : stepped.save ≡ false
  pub places : KeepsPlaces before.register after.register

-- the step of an event was made
abbrev pub Steps : Held → Event → Stepped → Held → Type 0
Steps before event stepped after = Makes before (step (state_of before) event) stepped after

-- the clients and the moment stay as they are, whatever becomes of the keys
pub record KeepsClients (before after : Held) : Type 0 where
  pub moment : after.moment ≡ before.moment
  pub register : after.register ≡ before.register

-- no client is there whose number is above all that joined
abbrev pub AreJoined : Register → Type 0
AreJoined register =
    (client : ℕ) → register.last < client → listed register client ≡ None
