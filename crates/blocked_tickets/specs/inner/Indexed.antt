-- The indexes agree with the tickets.
use Rattle.std.specs.Prelude.{◌≡◌, ◌==◌, ℕ, ◌≤◌, Bool, false, Some, List}
use Rattle.std.specs.Option.{option_map_or}
use Rattle.std.specs.Ordering.{nat_cmp}
use Rattle.std.specs.FinMap as map
use Rattle.std.specs.FinSet as set
use Rattle.blocked_tickets.specs.declared.deadlines.Due.{Due}
use Rattle.blocked_tickets.specs.Due.{due_cmp}
use Rattle.blocked_tickets.specs.Kept.{Kept}
use Rattle.blocked_tickets.specs.TicketTable.{HeldMap, TicketTable, waiter_of, deadline_of}

-- each client's number in the index is that of the ticket on which it waits
pub record WaitersAgree (waiters : map.FinMap nat_cmp ℕ) (table : TicketTable) : Type 0 where
  pub listed : (client number : ℕ) → waiter_of table number ≡ Some client
      → map.get waiters client ≡ Some number
  pub waits : (client number : ℕ) → map.get waiters client ≡ Some number
      → waiter_of table number ≡ Some client

-- whether the ticket has this deadline, and it can still come
abbrev pub has_deadline : TicketTable → Due → Bool
has_deadline table due = option_map_or (λ d. d == due.deadline) (deadline_of table due.ticket) false

-- the table that these parts make
abbrev pub table_of : HeldMap → List ℕ → ℕ → TicketTable
table_of held ready next = record { held = held; ready = ready; next = next }

pub record Indexed (waiters : map.FinMap nat_cmp ℕ) (deadlines : set.FinSet due_cmp) (room : ℕ)
    (table : TicketTable) : Type 0 where
  pub kept : Kept table
  pub clients : WaitersAgree waiters table
  pub dues : (due : Due) → set.contains deadlines due ≡ has_deadline table due
  -- each ticket that is held has a place in the line of the ready ones
  pub places : map.len table.held ≤ room
