-- What a step of a host stops by.
use Rattle.std.specs.Prelude.{⊤}
use Rattle.core_types.specs.declared.event.Event.{Event}
use Rattle.core_types.specs.declared.event.Event.TheVariants as event
use Rattle.server_shell.specs.Faults.{IsHostStop, IsOwnStop}
use Rattle.server_shell.specs.declared.status.Status.{Status}

-- a client's coming and going ask nothing of the directory
abbrev pub AsksNothing : Event → Type 0
AsksNothing (event.Join client) = ⊤
AsksNothing (event.Gone client) = ⊤
AsksNothing other = ⊥

-- the end that an event's step led to
pub record StopsOver (happens : Event) (end : Status) : Type 0 where
  pub host : IsHostStop end
  pub own : AsksNothing happens → IsOwnStop end
