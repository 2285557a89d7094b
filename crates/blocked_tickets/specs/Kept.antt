-- What holds of the tickets at every moment.
use Rattle.std.specs.Prelude.{◌≡◌, ℕ, ◌<◌, ◌≤◌, ◌^◌, is_some, IsSome, Some, nat_eq}
use Rattle.std.specs.List.{IsDistinct}
use Rattle.std.specs.Set.{is_member}
use Rattle.std.specs.FinMap as map
use Rattle.blocked_tickets.specs.Outcomes.{most_held}
use Rattle.blocked_tickets.specs.TicketTable.{TicketTable, ticket_at, waiter_of, payload_of}

pub record Kept (table : TicketTable) : Type 0 where
  -- each number that is held was issued, and numbers rise from 1
  pub issued : (number : ℕ) → IsSome (ticket_at table number) → (0 < number) × (number < table.next)
  -- a client waits on one ticket at most
  pub one_waiting : (client a b : ℕ) → waiter_of table a ≡ Some client
      → waiter_of table b ≡ Some client → a ≡ b
  -- the ready tickets are those that are held with a payload,
  pub ready_held : (number : ℕ)
      → is_member nat_eq table.ready number ≡ is_some (payload_of table number)
  -- each once
  pub ready_once : IsDistinct nat_eq table.ready
  pub few : map.len table.held ≤ most_held
  pub next_fits : (0 < table.next) × (table.next < 2 ^ 64)
