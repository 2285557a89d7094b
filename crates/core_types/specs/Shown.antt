-- What a host shows to those that share it: plain data, read off between two of its events. A part
-- that a host does not have is none or 0.
use Rattle.std.specs.Prelude.{ℕ, Bool, List, Option}
use Rattle.std.specs.FinMap as finite
use Rattle.std.specs.Ordering.{nat_cmp}
use Rattle.core_types.specs.declared.client_state.ClientState.{ClientState}
use Rattle.core_types.specs.declared.effect.Effect.{Effect}
use Rattle.core_types.specs.declared.order.Order.{Order}
use Rattle.core_types.specs.declared.stop.Cause.{Cause}
use Rattle.core_types.specs.Keys.{Keys}

-- the effects of one event with a number: the event before `to` has them, and those from `from` to
-- it have none
pub record NumberedEffects : Type 0 where
  pub from : ℕ
  pub to : ℕ
  pub effects : List Effect

-- what is kept of a run's effects for replicas, from event `first` to `end`; the oldest first, and
-- none of them without effects
pub record Backlog : Type 0 where
  pub run : ℕ
  pub first : ℕ
  pub end : ℕ
  pub units : List NumberedEffects

-- of one client: where it stands; of the bytes that it was told, counted from its first, how many
-- it took and how many it may take; and those from `taken` on
pub record ShownClient : Type 0 where
  pub standing : ClientState
  pub taken : ℕ
  pub may : ℕ
  pub told : List ℕ

pub record Shown : Type 0 where
  -- the numbers of the first event that is kept, and of the event that comes next
  pub first : ℕ
  pub end : ℕ
  -- the bytes of the log, and those that it had after the last rewrite
  pub log : ℕ
  pub swapped : ℕ
  -- the keys that the rewrite under way has not saved yet
  pub rewriting : Option ℕ
  -- why the host has stopped, and whether it is told to end
  pub stopped : Option Cause
  pub ending : Bool
  -- the orders that nobody took, the oldest first, and how many were taken
  pub orders : List Order
  pub taken_orders : ℕ
  pub keys : Keys
  pub backlog : Option Backlog
  -- the values that wait to be freed
  pub queued : ℕ
  -- the clients that are there, by number
  pub clients : finite.FinMap nat_cmp ShownClient
