-- The register of clients: for each the record, and up to where its replies may be taken.
use Rattle.std.specs.Prelude.{refl, ℕ, ◌+◌, ◌-◌, ◌≤◌, if◌then◌else◌, List, [], length, map, Option, Some, None}
use Rattle.std.specs.Option.{option_map}
use Rattle.std.specs.Ordering.{nat_cmp}
use Rattle.std.specs.FinMap as finite
use Rattle.std.specs.Coded.{Coded, code_by, coded×, coded_ℕ}
use Rattle.core_types.specs.declared.client_state.ClientState.{ClientState}
use Rattle.core_types.specs.declared.client_state.ClientState.TheVariants as states
use Rattle.client_book.specs.declared.client.Client.{Client}
use Rattle.client_book.specs.declared.pending.Pending.{Pending}
use Rattle.client_book.specs.declared.queue.Queue.{Queue}
use Rattle.client_book.specs.declared.queue.Queued.{Queued}
use Rattle.client_book.specs.contracts.client.Client as client
use Rattle.client_book.specs.Client.{new_client}
use Rattle.client_book.specs.Queue.{ended}

-- `may` is a place in the client's stream of replies, of which `client.told` begins at
-- `client.from`
pub record Listed : Type 0 where
  pub client : Client
  pub may : ℕ

-- `last` is the greatest number that joined, 0 where none did
pub record Register : Type 0 where
  pub clients : finite.FinMap nat_cmp Listed
  pub last : ℕ

-- the records alone, as a machine that keeps no outboxes has them
pub record Roll : Type 0 where
  pub clients : finite.FinMap nat_cmp Client
  pub last : ℕ

abbrev pub listed_code : Coded Listed
listed_code = code_by (Client × ℕ) (coded× client.the_row.coded coded_ℕ) (λ l. (l.client, l.may))
    (λ p. record { client = p.0; may = p.1 }) (λ _. refl)

abbrev pub register_code : Coded Register
register_code =
    code_by (finite.FinMap nat_cmp Listed × ℕ) (coded× (finite.code coded_ℕ listed_code) coded_ℕ)
    (λ r. (r.clients, r.last)) (λ p. record { clients = p.0; last = p.1 }) (λ _. refl)

abbrev pub roll_code : Coded Roll
roll_code =
    code_by (finite.FinMap nat_cmp Client × ℕ)
    (coded× (finite.code coded_ℕ client.the_row.coded) coded_ℕ) (λ r. (r.clients, r.last))
    (λ p. record { clients = p.0; last = p.1 }) (λ _. refl)

-- what the register has for a client, where it is there
abbrev pub listed : Register → ℕ → Option Listed
listed register number = finite.get register.clients number

-- ---- changes

-- a map with each value changed
abbrev pub each : {X Y : Type 0} → (X → Y) → finite.FinMap nat_cmp X → finite.FinMap nat_cmp Y
each f clients = finite.from_entries (map (λ entry. (entry.0, f entry.1)) (finite.entries clients))

abbrev pub nobody : Register
nobody = record { clients = finite.empty; last = 0 }

-- a client joins, with nothing told
abbrev pub joins : ℕ → Register → Register
joins number register =
    record {
      clients = finite.insert register.clients number
          (record { client = new_client; may = 0 });
      last = number;
    }

abbrev pub leaves : ℕ → Register → Register
leaves number register = record register { clients = finite.remove register.clients number }

abbrev pub put_if_there : Option Listed → (Listed → Listed) → ℕ → Register → Register
put_if_there None f number register = register
put_if_there (Some entry) f number register =
    record register { clients = finite.insert register.clients number (f entry) }

-- what is listed of one client changes, where it is there
abbrev pub lists : (Listed → Listed) → ℕ → Register → Register
lists f number register = put_if_there (listed register number) f number register

-- its record changes
abbrev pub on_record : (Client → Client) → Listed → Listed
on_record f entry = record entry { client = f entry.client }

abbrev pub changes : (Client → Client) → ℕ → Register → Register
changes f number register = lists (on_record f) number register

-- and the record of every client
abbrev pub changes_all : (Client → Client) → Register → Register
changes_all f register = record register { clients = each (on_record f) register.clients }

-- all that was told may be taken
abbrev pub freed : Listed → Listed
freed entry = record entry { may = entry.client.from + length entry.client.told }

abbrev pub frees_all : Register → Register
frees_all register = record register { clients = each freed register.clients }

-- ---- what the register says of a client, where it is there

abbrev pub state_of : Option Listed → ClientState
state_of None = states.Absent
state_of (Some entry) = if entry.client.closing then states.Closing else states.Connected

abbrev pub ticket_of : Option Listed → Option ℕ
ticket_of None = None
ticket_of (Some entry) = entry.client.waiting

abbrev pub pending_of : Option Listed → List Pending
pending_of None = []
pending_of (Some entry) = entry.client.pending

abbrev pub queue_of : Option Listed → Option Queued
queue_of None = None
queue_of (Some entry) = entry.client.queue

-- what was told and not taken, and how many bytes of it may be taken
abbrev pub told_of : Option Listed → List ℕ
told_of None = []
told_of (Some entry) = entry.client.told

abbrev pub free_of : Option Listed → ℕ
free_of None = 0
free_of (Some entry) = entry.may - entry.client.from

-- a queue as it ends, with the mark of the watches
abbrev pub ended_queue : Option Listed → Option Queue
ended_queue None = None
ended_queue (Some entry) = option_map (ended entry.client.touched) entry.client.queue

-- what may be taken is a front of what is told
pub record IsFront (entry : Listed) : Type 0 where
  pub begins : entry.client.from ≤ entry.may
  pub ends : entry.may ≤ entry.client.from + length entry.client.told

abbrev pub roll_of : Register → Roll
roll_of register = record {
  clients = each (λ (entry : Listed). entry.client) register.clients;
  last = register.last;
}
