-- What clients took of their replies.
use Rattle.std.specs.Prelude.{◌≡◌, ◌<◌, ◌≤◌, ⊤, ℕ, ◌+◌, ◌-◌, List, [], length, take, drop, Option, Some, None}
use Rattle.client_book.specs.Client.{passes}
use Rattle.client_book.specs.Register.{Listed}
use Rattle.client_book.specs.declared.client.Client.{Client}
use Rattle.host_core.specs.Clients.{client_at}
use Rattle.host_core.specs.State.{State}

-- a client's record, but that some of what it was told was taken
pub record TookSome (full now : Client) : Type 0 where
  pub count : ℕ
  pub enough : count ≤ length full.told
  pub rest : now ≡ passes count full

-- the same where a client may be there
abbrev pub IsButTaken : Option Client → Option Client → Type 0
IsButTaken None None = ⊤
IsButTaken (Some full) (Some now) = TookSome full now
IsButTaken _ _ = ⊥

-- a state of the machine, but that clients took some of what they were told
pub record SameButTaken (full now : State) : Type 0 where
  pub keys : now.keys ≡ full.keys
  pub moment : now.moment ≡ full.moment
  pub last : now.clients.last ≡ full.clients.last
  pub each : (client : ℕ) → IsButTaken (client_at full.clients client) (client_at now.clients client)

-- the end of a client's stream of replies; one that is not there has none
abbrev pub stream_end : Option Client → ℕ
stream_end None = 0
stream_end (Some client) = client.from + length client.told

-- where the part of its stream begins that its record has
abbrev pub stream_start : Option Client → ℕ
stream_start None = 0
stream_start (Some client) = client.from

-- the bytes of its stream from one place to another
abbrev pub stream_between : (from to : ℕ) → Option Client → List ℕ
stream_between from to None = []
stream_between from to (Some client) = take (to - from) (drop (from - client.from) client.told)

-- the bytes that a client may take now; one that is not there may take none
abbrev pub free_bytes : Option Listed → List ℕ
free_bytes None = []
free_bytes (Some entry) = take (entry.may - entry.client.from) entry.client.told

-- what a client may take is in the stream that it had in a state of the machine
pub record IsFreed (stream : Option Client) (entry : Listed) : Type 0 where
  pub begins : entry.client.from ≤ entry.may
  pub recorded : entry.client.from < entry.may → stream_start stream ≤ entry.client.from
  pub within : entry.may ≤ stream_end stream
  pub bytes : free_bytes (Some entry) ≡ stream_between entry.client.from entry.may stream

-- up to where a client took its replies; one that is not there took none
abbrev pub taken_of : Option Listed → ℕ
taken_of None = 0
taken_of (Some entry) = entry.client.from
