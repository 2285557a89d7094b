-- The history that a host keeps: the state that it began from, and the events since.
use Rattle.std.specs.Prelude.{ℕ, ◌+◌, ◌-◌, List, [], ◌∷◌, ◌++◌, length, take}
use Rattle.core_types.specs.declared.effect.Effect.{Effect}
use Rattle.core_types.specs.declared.event.Event.{Event}
use Rattle.host_core.specs.Events.{step}
use Rattle.host_core.specs.Fold as fold
use Rattle.host_core.specs.State.{State}

-- `first` is the number of events before the opening, which are no longer kept
pub record Kept : Type 0 where
  pub first : ℕ
  pub opening : State
  pub events : List Event

-- the number of all events
abbrev pub event_count : Kept → ℕ
event_count kept = kept.first + length kept.events

-- the state of the machine after the first of all events, this many, and after all of them
abbrev pub state_after : ℕ → Kept → State
state_after count kept = fold.after step kept.opening (take (count - kept.first) kept.events)

abbrev pub state_now : Kept → State
state_now kept = fold.after step kept.opening kept.events

-- the changes of the keys that each kept event made
abbrev pub changes_of : Kept → List (List Effect)
changes_of kept = fold.effects step kept.opening kept.events

-- one more event happened
abbrev pub with_event : Event → Kept → Kept
with_event event kept = record kept { events = kept.events ++ event ∷ [] }

-- nothing has happened since
abbrev pub from_opening : State → Kept
from_opening opening = record { first = 0; opening = opening; events = [] }
