-- Histories, and how one goes on from another.
use Rattle.std.specs.Prelude.{◌≡◌, ℕ, ◌+◌, ◌-◌, ◌≤◌, List, length, take, drop, slice_get, Some}
use Rattle.core_types.specs.declared.event.Event.{Event}
use Rattle.context_lock.specs.declared.view.History.{History}
use Rattle.context_lock.specs.declared.view.Pair.{Pair}

-- the number at which a history ends: that of the event that comes next
abbrev pub end : History → ℕ
end history = history.first + length history.events

-- an event that was not cut off stands at its number
abbrev pub Stands : History → Pair → Type 0
Stands history pair =
    history.first ≤ pair.number
    → slice_get history.events (pair.number - history.first) ≡ Some pair.event

-- events are added at the end, and some at the front may be cut off, but none of those added
pub record GoesOn (before after : History) : Type 0 where
  pub cut : before.first ≤ after.first
  pub reached : after.first ≤ end before
  pub keeps : take (end before - after.first) after.events
      ≡ drop (after.first - before.first) before.events

-- the events that were added
abbrev pub added : History → History → List Event
added before after = drop (end before - after.first) after.events
